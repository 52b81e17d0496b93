-- The straight line of the code's reader, in its three parts: member behind member, each found or the text broken; and what is left to ask of the whole.
use mathlib.Core.Path.{◌≡◌, refl, sym, ◌∙◌, ap}
use mathlib.Core.Bool.{Bool, true, false, true≢false, cond, ◌&&◌}
use mathlib.Core.List.{List}
use mathlib.Core.Option.{some, none}
use Prim.Native.Nat.{ℕ, suc}
use lib.ListN.{length}
use lib.Dec.{eqb}
use borrow.Author.Tests.{eq-eqb, eqb-true}
use Rattle.json_text.specs.Documents.{Document, is_table, weight_count, fitting}
use Rattle.json_text.specs.Documents.{coefficients_name, counts_name, leads_name, modulus_name, order_name, points_name, standard_name, variables_name, weights_name}
use Rattle.json_text.specs.Reading.{read}
use Rattle.json_text.specs.Places.{found, broken, after_at, done_at, here, exactly_at, number_at, list_at, rows_at}
use Rattle.json_text.specs.Places.{member_at, end_at, middle_at, document_at, whole_at, read_at}
use Rattle.json_text.specs.Tables.{shape_of}
use Rattle.json_text.proofs.PlacedDocuments.{read_at_lem}

-- The first three members.
module _ (text : List ℕ) where
  pub front_1 : member_at 123 coefficients_name rows_at text 0 ≡ broken → document_at text 0 ≡ broken
  unfolding document_at after_at
  front_1 e = rw e

  module _ {a1 : List (List ℕ)} {n1 : ℕ} (e1 : member_at 123 coefficients_name rows_at text 0 ≡ found a1 n1) where
    pub front_2 : member_at 44 counts_name list_at text n1 ≡ broken → document_at text 0 ≡ broken
    unfolding document_at after_at
    front_2 e = rw (e1, e)

    module _ {a2 : List ℕ} {n2 : ℕ} (e2 : member_at 44 counts_name list_at text n1 ≡ found a2 n2) where
      pub front_3 : member_at 44 leads_name rows_at text n2 ≡ broken → document_at text 0 ≡ broken
      unfolding document_at after_at
      front_3 e = rw (e1, e2, e)

      pub front_all : {a3 : List (List ℕ)} {n3 : ℕ} → member_at 44 leads_name rows_at text n2 ≡ found a3 n3 → document_at text 0 ≡ middle_at a1 a2 a3 text n3
      unfolding document_at after_at
      front_all e = rw (e1, e2, e)

-- The next four, behind any three.
module _ (text : List ℕ) (at : ℕ) (a : List (List ℕ)) (b : List ℕ) (c : List (List ℕ)) where
  pub middle_1 : member_at 44 modulus_name number_at text at ≡ broken → middle_at a b c text at ≡ broken
  unfolding middle_at after_at
  middle_1 e = rw e

  module _ {a1 : ℕ} {n1 : ℕ} (e1 : member_at 44 modulus_name number_at text at ≡ found a1 n1) where
    pub middle_2 : member_at 44 order_name number_at text n1 ≡ broken → middle_at a b c text at ≡ broken
    unfolding middle_at after_at
    middle_2 e = rw (e1, e)

    module _ {a2 : ℕ} {n2 : ℕ} (e2 : member_at 44 order_name number_at text n1 ≡ found a2 n2) where
      pub middle_3 : member_at 44 points_name rows_at text n2 ≡ broken → middle_at a b c text at ≡ broken
      unfolding middle_at after_at
      middle_3 e = rw (e1, e2, e)

      module _ {a3 : List (List ℕ)} {n3 : ℕ} (e3 : member_at 44 points_name rows_at text n2 ≡ found a3 n3) where
        pub middle_4 : member_at 44 standard_name rows_at text n3 ≡ broken → middle_at a b c text at ≡ broken
        unfolding middle_at after_at
        middle_4 e = rw (e1, e2, e3, e)

        pub middle_all : {a4 : List (List ℕ)} {n4 : ℕ} → member_at 44 standard_name rows_at text n3 ≡ found a4 n4
            → middle_at a b c text at ≡ end_at a b c a1 a2 a3 a4 text n4
        unfolding middle_at after_at
        middle_all e = rw (e1, e2, e3, e)

-- The last two and the end of the text, behind any seven.
module _ (text : List ℕ) (at : ℕ) (a : List (List ℕ)) (b : List ℕ) (c : List (List ℕ)) (p o : ℕ) (u v : List (List ℕ)) where
  pub end_1 : member_at 44 variables_name number_at text at ≡ broken → whole_at text (end_at a b c p o u v text at) ≡ none
  unfolding end_at after_at whole_at
  end_1 e = rw e

  module _ {m : ℕ} {n1 : ℕ} (e1 : member_at 44 variables_name number_at text at ≡ found m n1) where
    pub end_2 : member_at 44 weights_name list_at text n1 ≡ broken → whole_at text (end_at a b c p o u v text at) ≡ none
    unfolding end_at after_at whole_at
    end_2 e = rw (e1, e)

    module _ {w : List ℕ} {n2 : ℕ} (e2 : member_at 44 weights_name list_at text n1 ≡ found w n2) where
      abbrev whole_document : Document
      whole_document = record { coefficients = a; counts = b; leads = c; modulus = p; order = o; points = u; standard = v; variables = m; weights = w }

      end_is : end_at a b c p o u v text at ≡ cond (here 125 text n2) (found whole_document (suc n2)) broken
      unfolding end_at after_at done_at exactly_at
      end_is = rw (e1, e2) (go (here 125 text n2))
        where
          go : (x : Bool) → after_at (cond x (found (tt {0}) (suc n2)) broken) (λ u. done_at whole_document text) ≡ cond x (found whole_document (suc n2)) broken
          go true = refl
          go false = refl

      pub end_not : false ≡ (here 125 text n2 && eqb (suc n2) (length text)) → whole_at text (end_at a b c p o u v text at) ≡ none
      unfolding whole_at
      end_not e = ap (whole_at text) end_is ∙ go (here 125 text n2) (eqb (suc n2) (length text)) refl e
        where
          go : (x y : Bool) → eqb (suc n2) (length text) ≡ y → false ≡ (x && y) → whole_at text (cond x (found whole_document (suc n2)) broken) ≡ none
          go false y f g = refl
          go true y f g = rw (f, ← g)

      pub end_all : true ≡ (here 125 text n2 && eqb (suc n2) (length text)) → end_at a b c p o u v text at ≡ found whole_document (length text)
      end_all e = end_is ∙ go (here 125 text n2) e
        where
          go : (x : Bool) → true ≡ (x && eqb (suc n2) (length text)) → cond x (found whole_document (suc n2)) broken ≡ found whole_document (length text)
          go true f = ap (found whole_document) (eqb-true (suc n2) (length text) (sym f))
          go false f = absurd (true≢false f)

-- the whole
module _ (text : List ℕ) where
  pub read_whole : read text ≡ whole_at text (document_at text 0)
  unfolding read_at
  read_whole = sym (read_at_lem text)

  pub read_broken : document_at text 0 ≡ broken → read text ≡ none
  unfolding whole_at
  read_broken e = read_whole ∙ rw e

  pub read_found : (d : Document) → document_at text 0 ≡ found d (length text) → read text ≡ cond (fitting d) (some d) none
  unfolding whole_at
  read_found d e = read_whole ∙ rw (e, eq-eqb (length text) (length text) refl)

-- What is left to ask of a document, by the code's tests: there are n counts and r leads.
module _ (d : Document) (n r : ℕ) (en : n ≡ length d.counts) (er : r ≡ length d.leads) where
  pub fits_told : (b1 b2 b3 b4 : Bool) (count due : ℕ) → b1 ≡ is_table n d.variables d.points → b2 ≡ is_table n d.variables d.standard
      → b3 ≡ is_table r d.variables d.leads
      → b4 ≡ is_table r n d.coefficients → count ≡ length d.weights → due ≡ weight_count d.order d.variables
      → (b1 && b2 && b3 && b4 && eqb count due) ≡ fitting d
  unfolding fitting
  fits_told b1 b2 b3 b4 count due e1 e2 e3 e4 ec ed = rw (e1, e2, e3, e4, ec, ed, en, er)

  pub shape_told : record { modulus = d.modulus; variables = d.variables; order = d.order; n = n; r = r } ≡ shape_of d
  unfolding shape_of
  shape_told = rw (en, er)
