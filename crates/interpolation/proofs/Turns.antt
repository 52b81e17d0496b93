-- A turn of a loop over two slices of one length, with its index.
use Rattle.std.proofs.Common.{◌≡◌, ℕ, Iter, ◌*◌, ◌<◌, List, length, get_or, take, drop, ap, ◌∙◌, arith}
use Rattle.std.proofs.lemmas.List.{get_or_default}
use Rattle.std.proofs.lemmas.List.FromFn.{length-enumerate_from, get_or-enumerate_from}
use Rattle.std.proofs.lemmas.Slice.Zip.{length-zip, get_or-zip}
use Rattle.std.proofs.iter.Yields.{fronts}
use Rattle.std.proofs.lemmas.Iterator.{YieldsList, YieldsList-from_slice, YieldsList-from_zip, zips}
use Rattle.std.proofs.lemmas.Iterator.Consumers.{YieldsList-from_enumerate}
use Rattle.std.specs.declared.iter.Enumerate.{Enumerate}
use Rattle.std.specs.declared.iter.Zip.{Zip}
use Rattle.std.specs.List.{zip, enumerate_from}
use Rattle.std.specs.declared.slice.ChunksExact.{ChunksExact}
use Rattle.std.specs.Slice.Iter.{iter_rest, chunks_exact_rest, chunks_exact_size, chunks_exact_steps}
use Rattle.residue.specs.Layout.{groups}
use Rattle.residue.proofs.Places.{length_groups, groups_at}
use Rattle.residue.proofs.Chunks.{rows_all}
use Rattle.std.specs.Iterator.Adapters.{zip_first, zip_second, enumerate_source, enumerate_count, enumerate_steps}

module _ (a b : List ℕ) (e : length a ≡ length b) where
  abbrev pub pairs : List (ℕ × (ℕ × ℕ))
  pairs = enumerate_from 0 (zip a b)

  pub pairs_long : length pairs ≡ length a
  pairs_long = length-enumerate_from 0 (zip a b) ∙ length-zip a b ∙ (omega arith)

  pub pairs_given : (s : Enumerate (Zip (Iter ℕ) (Iter ℕ))) → iter_rest (zip_first (enumerate_source s)) ≡ a → iter_rest (zip_second (enumerate_source s)) ≡ b → enumerate_count s ≡ 0
      → YieldsList {B = ℕ × (ℕ × ℕ)} (enumerate_steps (zips fronts fronts)) (λ p. (p.0, (p.1.0.now, p.1.1.now))) s pairs
  pairs_given s f g h = YieldsList-from_enumerate {s = s} (YieldsList-from_zip {s = enumerate_source s} (YieldsList-from_slice a f) (YieldsList-from_slice b g)) h

  pub pair_turn : (n i x y : ℕ) → (n < length pairs) × ((i, (x, y)) ≡ get_or pairs n (i, (x, y))) → (n < length a) × ((i ≡ n) × ((x ≡ get_or a n 0) × (y ≡ get_or b n 0)))
  pair_turn n i x y (h, t) =
      let k : n < length a = omega (arith, pairs_long) in
      let z = t ∙ get_or-enumerate_from 0 (zip a b) n (i, (x, y)) (omega (arith, length-zip a b)) in
      let u = get_or-zip a b n (x, y) k (omega arith) in
      let v = get_or_default a n x 0 k in
      let w = get_or_default b n y 0 (omega arith) in (
        k,
        (
          ap (λ (q : ℕ × (ℕ × ℕ)). q.0) z ∙ (omega arith),
          (ap (λ (q : ℕ × (ℕ × ℕ)). q.1.0) z ∙ ap (λ (q : ℕ × ℕ). q.0) u ∙ v, ap (λ (q : ℕ × (ℕ × ℕ)). q.1.1) z ∙ ap (λ (q : ℕ × ℕ). q.1) u ∙ w),
        ),
      )

-- A turn of a loop over coefficients and the rows of their exponents.
module _ (cs es : List ℕ) (e : length es ≡ 8 * length cs) where
  abbrev pub terms : List (ℕ × List ℕ)
  terms = zip cs (groups 8 (length cs) es)

  pub terms_long : length terms ≡ length cs
  terms_long = length-zip cs (groups 8 (length cs) es) ∙ omega (arith, length_groups 8 (length cs) es)

  pub terms_given : (s : Zip (Iter ℕ) (ChunksExact ℕ)) → iter_rest (zip_first s) ≡ cs → chunks_exact_rest (zip_second s) ≡ es → chunks_exact_size (zip_second s) ≡ 8
      → YieldsList {B = ℕ × List ℕ} (zips fronts chunks_exact_steps) (λ p. (p.0.now, p.1.now)) s terms
  terms_given s f g h = YieldsList-from_zip {s = s} (YieldsList-from_slice cs f) (rows_all 8 (length cs) es (omega arith) e g h)

  pub term_turn : (n x : ℕ) (y : List ℕ) → (n < length terms) × ((x, y) ≡ get_or terms n (x, y)) → (n < length cs) × ((x ≡ get_or cs n 0) × (y ≡ take 8 (drop (8 * n) es)))
  term_turn n x y (h, t) =
      let k : n < length cs = omega (arith, terms_long) in
      let z = t ∙ get_or-zip cs (groups 8 (length cs) es) n (x, y) k (omega (arith, length_groups 8 (length cs) es)) in (
        k,
        (ap (λ (q : ℕ × List ℕ). q.0) z ∙ get_or_default cs n x 0 k, ap (λ (q : ℕ × List ℕ). q.1) z ∙ groups_at 8 (length cs) n es y k),
      )
