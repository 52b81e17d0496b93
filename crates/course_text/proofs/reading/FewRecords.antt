-- A text has few records: each of a level and a number takes three bytes, and all but the last a break behind them.
use mathlib.Core.Path.{◌≡◌, refl, ap}
use mathlib.Core.List.{List, [], ◌∷◌, ◌++◌, map}
use mathlib.Core.Option.{Option, some, none}
use Prim.Native.Nat.{ℕ, suc, ◌+◌, ◌*◌, ◌<◌, ◌≤◌}
use native.Mathlib.Omega.{arith}
use lib.IntN.{ℤ}
use lib.ListN.{length, length-append}
use Rattle.notation.specs.Fields.{records_of}
use Rattle.notation.specs.Forms.{entry_of}
use Rattle.notation.specs.Grammar.{IsField, bare, enclosed, IsRecord, single, joined, IsBreak, feed, return_feed, Complete, done, next, IsText, ended, unended}
use Rattle.notation.specs.FormGrammar.{IsNumber, one, two, three, IsLevel, unsigned, signed, AreLevels, no_levels, levels, IsEntry}
use Rattle.notation.proofs.Grammar.LevelForm.{entry_grammar}
use Rattle.notation.proofs.Grammar.TextFound.{text_grammar}
use Rattle.comma_text.specs.reading.Text.{entry_in}
use Rattle.comma_text.specs.reading.Records.{entries_at}

-- a field whose content has bytes has them, too
field_some : {b c : List ℕ} → IsField b c → 0 < length c → 0 < length b
field_some (bare p) h = h
field_some enclosed h = omega arith

-- two fields or more, and the first two have bytes
abbrev Wide : List (List ℕ) → Type 0
Wide [] = ⊥
Wide (c ∷ []) = ⊥
Wide (c ∷ d ∷ fs) = (0 < length c) × (0 < length d)

-- the first has
abbrev FirstSome : List (List ℕ) → Type 0
FirstSome [] = ⊥
FirstSome (c ∷ fs) = 0 < length c

record_some : {b : List ℕ} {fs : List (List ℕ)} → IsRecord b fs → FirstSome fs → 0 < length b
record_some (single f) h = field_some f h
record_some (joined {b = b} {bs = bs} f r) h = let k = field_some f h in omega (arith, length-append b (44 ∷ bs), k)

record_wide : {b : List ℕ} {fs : List (List ℕ)} → IsRecord b fs → Wide fs → 3 ≤ length b
record_wide (single f) w = absurd w
record_wide (joined {b = b} {bs = bs} {cs = []} f r) w = absurd w
record_wide (joined {b = b} {bs = bs} {cs = d ∷ cs} f r) w =
    let h = field_some f w.0 in
    let k = record_some r w.1 in
    omega (arith, length-append b (44 ∷ bs), h, k)

break_some : {e : List ℕ} → IsBreak e → 0 < length e
break_some feed = omega arith
break_some return_feed = omega arith

-- all of them are wide
abbrev AllWide : List (List (List ℕ)) → Type 0
AllWide [] = Unit {0}
AllWide (fs ∷ rs) = Wide fs × AllWide rs

complete_long : {l rest : List ℕ} {rs : List (List (List ℕ))} → Complete l rs rest → AllWide rs → 4 * length rs + length rest ≤ length l
complete_long done w = omega arith
complete_long (next {b = b} {e = e} {l = l} {rs = rs} r k c) w =
    let x = record_wide r w.0 in
    let y = break_some k in
    let z = complete_long c w.1 in
    omega (arith, length-append b (e ++ l), length-append e l, x, y, z)

wide_before : (rs : List (List (List ℕ))) (fs : List (List ℕ)) → AllWide (rs ++ (fs ∷ [])) → AllWide rs × Wide fs
wide_before [] fs w = (tt, w.0)
wide_before (r ∷ rs) fs w = let h = wide_before rs fs w.1 in ((w.0, h.0), h.1)

text_long : {l : List ℕ} {rs : List (List (List ℕ))} → IsText l rs → AllWide rs → 4 * length rs ≤ length l + 1
text_long (ended c) w = omega (arith, complete_long c w)
text_long (unended {b = b} {fs = fs} {rs = rs} c n r) w =
    let h = wide_before rs fs w in
    let x = complete_long c h.0 in
    let y = record_wide r h.1 in
    omega (arith, length-append rs (fs ∷ []), x, y)

-- a level has bytes
number_some : {l : List ℕ} {n : ℕ} → IsNumber l n → 0 < length l
number_some (one a) = omega arith
number_some (two a b) = omega arith
number_some (three a b c) = omega arith

level_some : {l : List ℕ} {z : ℤ} → IsLevel l z → 0 < length l
level_some (unsigned n) = number_some n
level_some (signed n) = omega arith

entry_wide : (m : ℕ) (fields : List (List ℕ)) (zs : List ℤ) → 1 ≤ m → IsEntry m fields zs → Wide fields
entry_wide m fields zs h e = go e.count e.each
  where
    go : {fs : List (List ℕ)} {ys : List ℤ} → length fs ≡ suc m → AreLevels fs ys → Wide fs
    go c no_levels = absurd (omega arith)
    go c (levels a no_levels) = absurd (omega arith)
    go c (levels a (levels b r)) = (level_some a, level_some b)

-- the records of a text whose records are entries
records_wide : (m : ℕ) → 1 ≤ m → (records : List (Option (List (List ℕ)))) (S : List (List ℤ)) → map (entry_in m) records ≡ map some S
    → (rs : List (List (List ℕ))) × (records ≡ map some rs) × AllWide rs × (length rs ≡ length S)
unfolding entry_in
records_wide m h [] [] e = ([], refl, tt, refl)
records_wide m h [] (s ∷ S) e = let z : ◌≡◌ {A = ℕ} 0 1 = cc in absurd (omega arith)
records_wide m h (r ∷ records) [] e = let z : ◌≡◌ {A = ℕ} 0 1 = cc in absurd (omega arith)
records_wide m h (none ∷ records) (s ∷ S) e = let z : ◌≡◌ {A = ℕ} 0 1 = cc in absurd (omega arith)
records_wide m h (some fields ∷ records) (s ∷ S) e =
    let q : entry_of m fields ≡ some s = cc in
    let k : map (entry_in m) records ≡ map some S = cc in
    let w = records_wide m h records S k in
    (fields ∷ w.0, ap (λ (l : List (Option (List (List ℕ)))). some fields ∷ l) w.1, (entry_wide m fields s h ((entry_grammar m fields s).1 q), w.2), ap suc w.3)

pub few_records : (m : ℕ) (l : List ℕ) (S : List (List ℤ)) → 1 ≤ m → entries_at m l ≡ map some S → 4 * length S ≤ length l + 1
unfolding entries_at
few_records m l S h e =
    let w = records_wide m h (records_of l) S e in
    omega (arith, text_long ((text_grammar l w.0).1 w.1) w.2, w.3)
