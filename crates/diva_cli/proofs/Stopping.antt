-- Where the loading of files stops, and groups of files that are sound.
use Rattle.std.proofs.Common.{◌≡◌, ◌≢◌, ◌⊎◌, ℕ, List, [], ◌∷◌, ◌++◌, Option, Some, None, inl, inr, subst, ◌∙◌}
use Rattle.diva_outside.specs.Causes.{Rose}
use Rattle.diva_outside.specs.Files.{Contents, FilesAccount, IsMissing}
use Rattle.diva_outside.specs.declared.files.What.{What}
use Rattle.diva_outside.specs.declared.files.What.TheVariants.{Image, Script, Tape as TapeFile, Commands}
use Rattle.diva_image.specs.Layout.{Layout}
use Rattle.diva_image.specs.Programs.{image_in}
use Rattle.diva_args.specs.Options.{DebugOptions, Setup}
use Rattle.diva_faults.specs.declared.rows.Row.{Row}
use Rattle.diva_process.specs.declared.stop.Stop.{Stop}
use Rattle.diva_process.specs.declared.stop.Stop.TheVariants.{Memory, Unread, Refused}
use Rattle.diva_process.specs.Lines.{unreadable_line, refused_line}
use Rattle.diva_process.specs.Programs.{FileBytes, Wanted}
use Rattle.diva_process.specs.Stops.{AreSound, AreUncounted, IsRefused, IsUnread, StopsAt, StopsLoading}
use Rattle.diva_process.specs.Writing.{Stops}
use Rattle.diva_cli.specs.Wanted.{file, file_if, file_rules, file_with, machine_files, session_files, tape_name}
use Rattle.diva_cli.specs.Parts.{Holds, HoldsRows}

-- ---- files that are sound

pub sound_both : (contents : Contents) (ws vs : List Wanted) (bytes : FileBytes) → AreSound file_rules contents ws bytes → AreSound file_rules contents vs bytes
    → AreSound file_rules contents (ws ++ vs) bytes
sound_both contents [] vs bytes a b = b
sound_both contents (w ∷ ws) vs bytes a b = (a.0, sound_both contents ws vs bytes a.1 b)

pub sound_if : (contents : Contents) (what : What) (name : Option (List ℕ)) (bytes : FileBytes) → AreSound file_rules contents (file_if what name) (λ _. bytes what)
    → AreSound file_rules contents (file_if what name) bytes
sound_if contents what None bytes s = tt
sound_if contents what (Some name) bytes s = s

-- ---- files for which nothing was counted

uncounted_both : (before now : What → ℕ) (ws vs : List Wanted) → AreUncounted before now ws → AreUncounted before now vs → AreUncounted before now (ws ++ vs)
uncounted_both before now [] vs a b = b
uncounted_both before now (w ∷ ws) vs a b = (a.0, uncounted_both before now ws vs a.1 b)

uncounted_since : (b0 b1 now : What → ℕ) (ws : List Wanted) → AreUncounted b0 b1 ws → AreUncounted b1 now ws → AreUncounted b0 now ws
uncounted_since b0 b1 now [] a b = tt
uncounted_since b0 b1 now (w ∷ ws) a b = (b.0 ∙ a.0, uncounted_since b0 b1 now ws a.1 b.1)

uncounted_if : (before now : What → ℕ) (what : What) (name : Option (List ℕ)) → now what ≡ before what → AreUncounted before now (file_if what name)
uncounted_if before now what None e = tt
uncounted_if before now what (Some name) e = (e, tt)

uncounted_all : (before now : What → ℕ) (ws : List Wanted) → ((w : What) → now w ≡ before w) → AreUncounted before now ws
uncounted_all before now [] same = tt
uncounted_all before now (w ∷ ws) same = (same w.what, uncounted_all before now ws same)

-- ---- where the loading stops

at_front : (contents : Contents) (this : Wanted → List Wanted → Type 0) (ws vs : List Wanted) → ((w : Wanted) (later : List Wanted) → this w later → this w (later ++ vs))
    → StopsAt file_rules contents this ws → StopsAt file_rules contents this (ws ++ vs)
at_front contents this [] vs more s = absurd s
at_front contents this (w ∷ ws) vs more (inl here) = inl (more w ws here)
at_front contents this (w ∷ ws) vs more (inr later) = inr (later.0, at_front contents this ws vs more later.1)

at_later : (contents : Contents) (this : Wanted → List Wanted → Type 0) (ws vs : List Wanted) (bytes : FileBytes) → AreSound file_rules contents ws bytes
    → StopsAt file_rules contents this vs → StopsAt file_rules contents this (ws ++ vs)
at_later contents this [] vs bytes sound s = s
at_later contents this (w ∷ ws) vs bytes sound s = inr (record { bytes = bytes w.what; sound = sound.0 }, at_later contents this ws vs bytes sound.1 s)

at_weaker : (contents : Contents) (this that : Wanted → List Wanted → Type 0) (b0 b1 : What → ℕ) (ws : List Wanted)
    → ((w : Wanted) (later : List Wanted) → AreUncounted b0 b1 later → this w later → that w later)
    → AreUncounted b0 b1 ws → StopsAt file_rules contents this ws → StopsAt file_rules contents that ws
at_weaker contents this that b0 b1 [] f u s = s
at_weaker contents this that b0 b1 (w ∷ ws) f u (inl here) = inl (f w ws u.1 here)
at_weaker contents this that b0 b1 (w ∷ ws) f u (inr later) = inr (later.0, at_weaker contents this that b0 b1 ws f u.1 later.1)

-- it stops at one of the first files, and nothing was counted for the others
stops_front : (before now : FilesAccount) (ws vs : List Wanted) (stop : Stop) → AreUncounted before.faults now.faults vs → Stops file_rules before now ws stop
    → Stops file_rules before now (ws ++ vs) stop
stops_front before now ws vs Memory u s = s
stops_front before now ws vs (Unread what) u s =
    at_front before.contents (IsUnread before now (unreadable_line what)) ws vs
    (λ w later h. record { cause = h.cause; line = h.line; uncounted = uncounted_both before.faults now.faults later vs h.uncounted u }) s
stops_front before now ws vs (Refused what kind place) u s =
    at_front before.contents (StopsLoading file_rules before now (refused_line what kind place)) ws vs
    (λ w later h. record { refused = h.refused; uncounted = uncounted_both before.faults now.faults later vs h.uncounted u }) s

-- the first are sound, and it stops at one of the others
stops_later : (before now : FilesAccount) (ws vs : List Wanted) (stop : Stop) (bytes : FileBytes) → AreSound file_rules before.contents ws bytes
    → Stops file_rules before now vs stop → Stops file_rules before now (ws ++ vs) stop
stops_later before now ws vs Memory bytes sound s = s
stops_later before now ws vs (Unread what) bytes sound s = at_later before.contents (IsUnread before now (unreadable_line what)) ws vs bytes sound s
stops_later before now ws vs (Refused what kind place) bytes sound s =
    at_later before.contents (StopsLoading file_rules before now (refused_line what kind place)) ws vs bytes sound s

-- what is told of a file by its contents alone
refused_in : (c d : Contents) (text : List ℕ) (w : Wanted) → d ≡ c → IsRefused file_rules d text w → IsRefused file_rules c text w
refused_in c d text w same r = subst (λ (x : Contents). IsRefused file_rules x text w) same r

-- the accounts are told from earlier on; nothing had been counted by then, and the contents are the same
stops_since : (a0 a1 now : FilesAccount) (ws : List Wanted) (stop : Stop) → a1.contents ≡ a0.contents → ((w : What) → a1.faults w ≡ a0.faults w)
    → Stops file_rules a1 now ws stop → Stops file_rules a0 now ws stop
stops_since a0 a1 now ws Memory told same s = λ w. s w ∙ same w
stops_since a0 a1 now ws (Unread what) told same s =
    subst (λ (c : Contents). StopsAt file_rules c (IsUnread a0 now (unreadable_line what)) ws) told
    (at_weaker a1.contents (IsUnread a1 now (unreadable_line what)) (IsUnread a0 now (unreadable_line what)) a0.faults a1.faults ws
    (λ w later u h. record { cause = go w h.cause; line = h.line; uncounted = uncounted_since a0.faults a1.faults now.faults later u h.uncounted })
    (uncounted_all a0.faults a1.faults ws same) s)
  where
    go : (w : Wanted) → Rose (a1.faults w.what) (now.faults w.what) ⊎ IsMissing a1.contents w.name → Rose (a0.faults w.what) (now.faults w.what) ⊎ IsMissing a0.contents w.name
    go w (inl rose) = inl (subst (λ n. Rose n (now.faults w.what)) (same w.what) rose)
    go w (inr missing) = inr (subst (λ (c : Contents). IsMissing c w.name) told missing)
stops_since a0 a1 now ws (Refused what kind place) told same s =
    subst (λ (c : Contents). StopsAt file_rules c (StopsLoading file_rules a0 now (refused_line what kind place)) ws) told
    (at_weaker a1.contents (StopsLoading file_rules a1 now (refused_line what kind place)) (StopsLoading file_rules a0 now (refused_line what kind place)) a0.faults a1.faults ws
    (λ w later u h. record {
      refused = refused_in a0.contents a1.contents (refused_line what kind place) w told h.refused;
      uncounted = uncounted_since a0.faults a1.faults now.faults later u h.uncounted;
    })
    (uncounted_all a0.faults a1.faults ws same) s)

-- ---- the files of a machine

module _ (a0 : FilesAccount) (setup : Setup) (image : Layout)
    (h : Holds a0.contents (file_with setup.room Image setup.image) (λ bytes. image_in setup.room bytes ≡ image)) where
  -- it stops at the script
  pub at_script : (a1 a2 : FilesAccount) (stop : Stop) → a1.contents ≡ a0.contents
      → ((w : What) → a1.faults w ≡ a0.faults w) → ((w : What) → w ≢ Script → a2.faults w ≡ a1.faults w)
      → Stops file_rules a1 a2 (file_if Script setup.script) stop
      → Stops file_rules a0 a2 (machine_files setup) stop
  at_script a1 a2 stop told first second s =
      stops_later a0 a2 (file_with setup.room Image setup.image ∷ []) (file_if Script setup.script ++ file_if TapeFile (tape_name setup.core)) stop (λ _. h.bytes) (h.sound, tt)
      (stops_front a0 a2 (file_if Script setup.script) (file_if TapeFile (tape_name setup.core)) stop
      (uncounted_if a0.faults a2.faults TapeFile (tape_name setup.core) (second TapeFile (λ e. cc) ∙ first TapeFile))
      (stops_since a0 a1 a2 (file_if Script setup.script) stop told first s))

  -- it stops at the tape
  pub at_tape : (c1 : Contents) (a1 a2 : FilesAccount) (stop : Stop) (rows : List Row) → c1 ≡ a0.contents → a1.contents ≡ a0.contents
      → ((w : What) → a1.faults w ≡ a0.faults w)
      → HoldsRows c1 setup.script rows
      → Stops file_rules a1 a2 (file_if TapeFile (tape_name setup.core)) stop
      → Stops file_rules a0 a2 (machine_files setup) stop
  at_tape c1 a1 a2 stop rows same told none r s =
      let k : HoldsRows a0.contents setup.script rows = subst (λ (t : Contents). HoldsRows t setup.script rows) same r in
      stops_later a0 a2 (file_with setup.room Image setup.image ∷ []) (file_if Script setup.script ++ file_if TapeFile (tape_name setup.core)) stop (λ _. h.bytes) (h.sound, tt)
      (stops_later a0 a2 (file_if Script setup.script) (file_if TapeFile (tape_name setup.core)) stop (λ _. k.bytes) k.sound
      (stops_since a0 a1 a2 (file_if TapeFile (tape_name setup.core)) stop told none s))

-- ---- the files of a session

-- the files of a machine can be used, and it stops at the commands
pub at_commands : (a0 a1 a2 : FilesAccount) (options : DebugOptions) (bytes : FileBytes) (stop : Stop) → AreSound file_rules a0.contents (machine_files options.setup) bytes
    → a1.contents ≡ a0.contents → ((w : What) → a1.faults w ≡ a0.faults w)
    → Stops file_rules a1 a2 (file Commands options.commands ∷ []) stop
    → Stops file_rules a0 a2 (session_files options) stop
at_commands a0 a1 a2 options bytes stop sound told none s =
    stops_later a0 a2 (machine_files options.setup) (file Commands options.commands ∷ []) stop bytes sound
    (stops_since a0 a1 a2 (file Commands options.commands ∷ []) stop told none s)
