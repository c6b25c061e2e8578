-- What stands for the flags that a plain line does not have.
use Rattle.std.proofs.Common.{◌≡◌, ◌∙◌, ◌||◌, Bool, true, false, List, [], ◌∷◌, ◌++◌, map, refl, sym, subst, Some, None, codes}
use Rattle.std.specs.Prelude.{fold, if◌then◌else◌}
use Rattle.std.specs.Str.{bytes_eq}
use Rattle.clap.specs.Walk.{Row, Text, at_row, first_of, has_row, is_empty, more_values, with_default}
use Rattle.clap.specs.Takes.{is_given}
use Rattle.clap.specs.Faults.{default_fault, defaults_fault, given_default_fault}
use Rattle.clap.specs.declared.parser.ValueSource.TheVariants.{DefaultValue}
use Rattle.clap.specs.declared.builder.value_parser.Reading.TheVariants as reading
use Rattle.diva_args.specs.Plain.{has_text}
use Rattle.diva_args.specs.Values.{is_set_by}
use Rattle.diva_args.proofs.PlainSteps.{Absent, at_absent, built_flag}

-- ---- one flag

abbrev unused_row : Text → Row
unused_row name = record { id = name; values = codes "false" ∷ []; count = None; source = Some DefaultValue; reading = reading.AsWritten }

absent_where : (id : Text) (rows : List Row) → has_row id rows ≡ false → Absent id rows
absent_where id [] h = tt
absent_where id (r ∷ rs) h = go (bytes_eq r.id id) refl h (absent_where id rs)
  where
    go : (b : Bool) → bytes_eq r.id id ≡ b → (b || has_row id rs) ≡ false → (has_row id rs ≡ false → Absent id rs)
        → (bytes_eq r.id id ≡ false) × Absent id rs
    go true e h rest = cc
    go false e h rest = (e, rest h)

-- a flag that was not used adds a row that says so
flag_default : (P : List Row → Type 0) (rows : List Row) (name : Text) → P rows → (Absent name rows → P (rows ++ unused_row name ∷ []))
    → P (with_default rows (built_flag name))
flag_default P rows name same added = go (has_row name rows) refl
  where
    go : (b : Bool) → has_row name rows ≡ b
        → P (if b then rows else at_row name (more_values DefaultValue (codes "false" ∷ [])) (unused_row name ∷ []) rows)
    go true e = same
    go false e = subst P (sym (at_absent name (more_values DefaultValue (codes "false" ∷ [])) (unused_row name ∷ []) rows (absent_where name rows e))) (added (absent_where name rows e))

-- the value of another id stays
value_stays : (rows : List Row) (name id : Text) → bytes_eq name id ≡ false → first_of id (rows ++ unused_row name ∷ []) ≡ first_of id rows
value_stays [] name id other = rw other refl
value_stays (r ∷ rs) name id other = go (bytes_eq r.id id) refl (value_stays rs name id other)
  where
    go : (b : Bool) → bytes_eq r.id id ≡ b → first_of id (rs ++ unused_row name ∷ []) ≡ first_of id rs
        → first_of id (r ∷ (rs ++ unused_row name ∷ [])) ≡ first_of id (r ∷ rs)
    go true e rest = rw e refl
    go false e rest = rw e rest

-- whether a flag was used stays for every id
flag_stays : (rows : List Row) (name id : Text) → is_set_by (first_of id (rows ++ unused_row name ∷ [])) ≡ is_set_by (first_of id rows)
flag_stays [] name id = go (bytes_eq name id) refl
  where
    go : (b : Bool) → bytes_eq name id ≡ b → is_set_by (first_of id (unused_row name ∷ [])) ≡ false
    go true e = rw e refl
    go false e = rw e refl
flag_stays (r ∷ rs) name id = go (bytes_eq r.id id) refl (flag_stays rs name id)
  where
    go : (b : Bool) → bytes_eq r.id id ≡ b → is_set_by (first_of id (rs ++ unused_row name ∷ [])) ≡ is_set_by (first_of id rs)
        → is_set_by (first_of id (r ∷ (rs ++ unused_row name ∷ []))) ≡ is_set_by (first_of id (r ∷ rs))
    go true e rest = rw e refl
    go false e rest = rw e rest

given_stays : (rows : List Row) (name id : Text) → is_given id rows ≡ true → is_given id (rows ++ unused_row name ∷ []) ≡ true
given_stays [] name id h = cc
given_stays (r ∷ rs) name id h = go (bytes_eq r.id id) refl h (given_stays rs name id)
  where
    go : (b : Bool) → bytes_eq r.id id ≡ b → is_given id (r ∷ rs) ≡ true → (is_given id rs ≡ true → is_given id (rs ++ unused_row name ∷ []) ≡ true)
        → is_given id (r ∷ (rs ++ unused_row name ∷ [])) ≡ true
    go true e h rest = rw e (rw e at h)
    go false e h rest = rw e (rest (rw e at h))

-- ---- all of them

-- the rows with what stands for the flags that were not used
abbrev pub with_flags : List Text → List Row → List Row
with_flags flags rows = fold with_default rows (map built_flag flags)

neither : (a b : Bool) → (a || b) ≡ false → (a ≡ false) × (b ≡ false)
neither true b h = cc
neither false b h = (refl, h)

pub value_kept : (flags : List Text) (rows : List Row) (id : Text) → has_text id flags ≡ false → first_of id (with_flags flags rows) ≡ first_of id rows
value_kept [] rows id none = refl
value_kept (x ∷ xs) rows id none =
    let parts = neither (bytes_eq x id) (has_text id xs) none in
    value_kept xs (with_default rows (built_flag x)) id parts.1
    ∙ flag_default (λ rs. first_of id rs ≡ first_of id rows) rows x refl (λ absent. value_stays rows x id parts.0)

pub flag_kept : (flags : List Text) (rows : List Row) (id : Text) → is_set_by (first_of id (with_flags flags rows)) ≡ is_set_by (first_of id rows)
flag_kept [] rows id = refl
flag_kept (x ∷ xs) rows id =
    flag_kept xs (with_default rows (built_flag x)) id
    ∙ flag_default (λ rs. is_set_by (first_of id rs) ≡ is_set_by (first_of id rows)) rows x refl (λ absent. flag_stays rows x id)

pub given_kept : (flags : List Text) (rows : List Row) (id : Text) → is_given id rows ≡ true → is_given id (with_flags flags rows) ≡ true
given_kept [] rows id h = h
given_kept (x ∷ xs) rows id h =
    given_kept xs (with_default rows (built_flag x)) id (flag_default (λ rs. is_given id rs ≡ true) rows x h (λ absent. given_stays rows x id h))

-- ---- their defaults pass

flag_passes_default : (rows : List Row) (name : Text) → default_fault rows (built_flag name) ≡ []
flag_passes_default rows name = go (has_row name rows)
  where
    go : (b : Bool) → (if b || is_empty (built_flag name).defaults then [] else given_default_fault (built_flag name) (built_flag name).defaults) ≡ []
    go true = refl
    go false = refl

pub flags_pass_defaults : (flags : List Text) (rows : List Row) → defaults_fault rows (map built_flag flags) ≡ []
unfolding defaults_fault
flags_pass_defaults [] rows = refl
flags_pass_defaults (x ∷ xs) rows = rw (flag_passes_default rows x) (flags_pass_defaults xs (with_default rows (built_flag x)))
