use Rattle.std.proofs.Common.{◌≡◌, length, take, drop, ap, ◌∙◌, arith}
use Rattle.diva_commit.proofs.Storing.{inside_rest}
use Rattle.diva_hart.specs.HartArch.{HartArch}
use Rattle.diva_hart.proofs.Undoing.{length_rest}
use Rattle.diva_hart.proofs.arch.HartArch.drain_all.Goals as goal

pub loop-preserved : goal.loop-preserved
loop-preserved c =
    let stores = c.loop.self.state.buffer in
    let rest : c.drain.new.self.state.buffer ≡ drop 1 stores = ap (λ (h : HartArch). h.state.buffer) c.drain.ensures.rest in
    let few : length c.drain.new.self.state.buffer ≡ length (drop 1 stores) = ap length rest in
    let less = length_rest stores in
    record {
      same = c.drain.ensures.same ∙ c.loop.invariant.same;
      stores = ap (λ (h : HartArch). h.stores) c.drain.ensures.rest ∙ c.loop.invariant.stores;
      owed = omega (arith, few, less, c.loop.invariant.owed, c.loop-test.true, c.owed-end.ensures);
      inside = rw (c.drain.ensures.memory, rest) (inside_rest c.loop.memory (take 1 stores) stores c.loop.invariant.inside);
    }
