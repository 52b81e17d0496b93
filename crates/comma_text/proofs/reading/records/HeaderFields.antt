-- The header, field by field.
use mathlib.Core.Path.{◌≡◌, refl, sym, ap, ◌∙◌, subst}
use mathlib.Core.Bool.{true, false}
use mathlib.Core.List.{List}
use mathlib.Core.Option.{Option}
use Prim.Native.Nat.{ℕ, suc, ◌+◌, ◌<◌}
use native.Mathlib.Numerals.{add-one}
use lib.ListN.{length}
use Rattle.notation.specs.Fields.{Field, field, broken, field_of, Part, part, faulty, kept, with_first, behind_field, record_of}
use Rattle.notation.specs.Forms.{Header, last_field, header_from}
use Rattle.notation.specs.Spans.{undoubled}
use Rattle.comma_text.specs.reading.Records.{reads}
use Rattle.notation.proofs.forms.NoQuote.{last_raw}
use Rattle.notation.proofs.fields.EnoughTurns.{Left, going, field_left, record_unroll}

-- the header that begins here, behind so many names
unfoldable pub headed : ℕ → List ℕ → Part Header
headed m l = reads (header_from m) (record_of l)

left_more : (n : ℕ) (content rest : List ℕ) → Left n (field content true rest) → length rest < n
left_more n content rest (going h) = h

-- the record behind a name has a field of its own
name_first : (m : ℕ) (c : List ℕ) (f : Field (List ℕ)) → reads (header_from m) (with_first c (behind_field record_of f)) ≡ reads (header_from (suc m)) (behind_field record_of f)
unfolding reads behind_field with_first header_from
name_first m c broken = refl
name_first m c (field d false rest) = refl
name_first m c (field d true rest) = go (record_of rest)
  where
    go : (p : Part (List (List ℕ))) → reads (header_from m) (with_first c (with_first d p)) ≡ reads (header_from (suc m)) (with_first d p)
    go faulty = refl
    go (part l r) = refl

module _ (m : ℕ) (l : List ℕ) where
  pub head_broken : broken ≡ field_of l → faulty ≡ headed m l
  unfolding headed reads behind_field
  head_broken e = ap (λ (f : Field (List ℕ)). reads (header_from m) (behind_field record_of f)) e ∙ ap (reads (header_from m)) (sym (record_unroll l))

  module _ (content rest : List ℕ) where
    pub head_more : field content true rest ≡ field_of l → headed (m + 1) rest ≡ headed m l
    unfolding headed behind_field
    head_more e =
        ap (λ (k : ℕ). reads (header_from k) (record_of rest)) (add-one m) ∙ ap (reads (header_from (suc m))) (record_unroll rest)
        ∙ sym (name_first m content (field_of rest)) ∙ ap (λ (p : Part (List (List ℕ))). reads (header_from m) (with_first content p)) (sym (record_unroll rest))
        ∙ ap (λ (f : Field (List ℕ)). reads (header_from m) (behind_field record_of f)) e ∙ ap (reads (header_from m)) (sym (record_unroll l))

    pub field_shorter : field content true rest ≡ field_of l → length rest < length l
    field_shorter e = left_more (length l) content rest (subst (Left (length l)) (sym e) (field_left l))

  pub head_last : (raw rest : List ℕ) {o : Option Header} → field (undoubled raw) false rest ≡ field_of l → o ≡ last_field m raw → kept o rest ≡ headed m l
  unfolding headed reads behind_field header_from
  head_last raw rest e h =
      ap (λ (o : Option Header). kept o rest) (h ∙ sym (last_raw m raw))
      ∙ ap (λ (f : Field (List ℕ)). reads (header_from m) (behind_field record_of f)) e ∙ ap (reads (header_from m)) (sym (record_unroll l))
