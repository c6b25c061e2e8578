-- Each byte is one of the word.
use Rattle.diva_memory.proofs.Words.{four_bytes}
use Rattle.diva_memory.proofs.memory.word_of.Goals as goal

pub returns-clause-bytes : goal.returns-clause-bytes
returns-clause-bytes c = λ i lt.
    four_bytes c.args.bytes.now c.read_u32.result i c.requires (λ k. (c.type_inv.bytes k).fits) c.read_u32.ensures lt
