-- Document 02's text of one state, and the text of no state (READINGS-02, 64), byte by byte.
use Rattle.std.specs.Prelude.{List, [], ◌∷◌, ◌++◌, ℕ}
use Rattle.json_text.specs.Documents.{Document}

-- `{"coefficients":[[1]],"counts":[1],"leads":[[1]],"modulus":2,"order":0,"points":[[1]],"standard":[[0]],"variables":1,"weights":[]}`
unfoldable pub one_state : List ℕ
one_state =
    123 ∷ 34 ∷ 99 ∷ 111 ∷ 101 ∷ 102 ∷ 102 ∷ 105 ∷ 99 ∷ 105 ∷ 101 ∷ 110 ∷ 116 ∷ 115 ∷ 34 ∷ 58 ∷ 91 ∷ 91 ∷ 49 ∷ 93 ∷ 93 ∷ 44 ∷ 34 ∷ 99 ∷ 111 ∷ 117 ∷ 110
    ∷ 116 ∷ 115 ∷ 34 ∷ 58 ∷ 91
    ∷ 49 ∷ 93 ∷ 44 ∷ 34 ∷ 108 ∷ 101 ∷ 97 ∷ 100 ∷ 115 ∷ 34 ∷ 58 ∷ 91 ∷ 91 ∷ 49 ∷ 93 ∷ 93 ∷ 44 ∷ 34 ∷ 109 ∷ 111 ∷ 100 ∷ 117 ∷ 108 ∷ 117 ∷ 115 ∷ 34 ∷ 58
    ∷ 50 ∷ 44 ∷ 34 ∷ 111 ∷ 114
    ∷ 100 ∷ 101 ∷ 114 ∷ 34 ∷ 58 ∷ 48 ∷ 44 ∷ 34 ∷ 112 ∷ 111 ∷ 105 ∷ 110 ∷ 116 ∷ 115 ∷ 34 ∷ 58 ∷ 91 ∷ 91 ∷ 49 ∷ 93 ∷ 93 ∷ 44 ∷ 34 ∷ 115 ∷ 116 ∷ 97 ∷ 110
    ∷ 100 ∷ 97 ∷ 114 ∷ 100 ∷ 34
    ∷ 58 ∷ 91 ∷ 91 ∷ 48 ∷ 93 ∷ 93 ∷ 44 ∷ 34 ∷ 118 ∷ 97 ∷ 114 ∷ 105 ∷ 97 ∷ 98 ∷ 108 ∷ 101 ∷ 115 ∷ 34 ∷ 58 ∷ 49 ∷ 44 ∷ 34 ∷ 119 ∷ 101 ∷ 105 ∷ 103 ∷ 104
    ∷ 116 ∷ 115 ∷ 34 ∷ 58 ∷ 91
    ∷ 93 ∷ 125 ∷ []

-- `{"coefficients":[[]],"counts":[],"leads":[[0,0]],"modulus":5,"order":1,"points":[],"standard":[],"variables":2,"weights":[]}`
unfoldable pub no_state : List ℕ
no_state =
    123 ∷ 34 ∷ 99 ∷ 111 ∷ 101 ∷ 102 ∷ 102 ∷ 105 ∷ 99 ∷ 105 ∷ 101 ∷ 110 ∷ 116 ∷ 115 ∷ 34 ∷ 58 ∷ 91 ∷ 91 ∷ 93 ∷ 93 ∷ 44 ∷ 34 ∷ 99 ∷ 111 ∷ 117 ∷ 110 ∷ 116
    ∷ 115 ∷ 34 ∷ 58 ∷ 91 ∷ 93
    ∷ 44 ∷ 34 ∷ 108 ∷ 101 ∷ 97 ∷ 100 ∷ 115 ∷ 34 ∷ 58 ∷ 91 ∷ 91 ∷ 48 ∷ 44 ∷ 48 ∷ 93 ∷ 93 ∷ 44 ∷ 34 ∷ 109 ∷ 111 ∷ 100 ∷ 117 ∷ 108 ∷ 117 ∷ 115 ∷ 34 ∷ 58
    ∷ 53 ∷ 44 ∷ 34 ∷ 111 ∷ 114
    ∷ 100 ∷ 101 ∷ 114 ∷ 34 ∷ 58 ∷ 49 ∷ 44 ∷ 34 ∷ 112 ∷ 111 ∷ 105 ∷ 110 ∷ 116 ∷ 115 ∷ 34 ∷ 58 ∷ 91 ∷ 93 ∷ 44 ∷ 34 ∷ 115 ∷ 116 ∷ 97 ∷ 110 ∷ 100 ∷ 97 ∷ 114
    ∷ 100 ∷ 34 ∷ 58 ∷ 91 ∷ 93
    ∷ 44 ∷ 34 ∷ 118 ∷ 97 ∷ 114 ∷ 105 ∷ 97 ∷ 98 ∷ 108 ∷ 101 ∷ 115 ∷ 34 ∷ 58 ∷ 50 ∷ 44 ∷ 34 ∷ 119 ∷ 101 ∷ 105 ∷ 103 ∷ 104 ∷ 116 ∷ 115 ∷ 34 ∷ 58 ∷ 91 ∷ 93
    ∷ 125 ∷ []

-- what they hold
abbrev pub one_document : Document
one_document = record {
  coefficients = (1 ∷ []) ∷ [];
  counts = 1 ∷ [];
  leads = (1 ∷ []) ∷ [];
  modulus = 2;
  order = 0;
  points = (1 ∷ []) ∷ [];
  standard = (0 ∷ []) ∷ [];
  variables = 1;
  weights = [];
}

abbrev pub no_document : Document
no_document = record {
  coefficients = [] ∷ [];
  counts = [];
  leads = (0 ∷ 0 ∷ []) ∷ [];
  modulus = 5;
  order = 1;
  points = [];
  standard = [];
  variables = 2;
  weights = [];
}

-- The text of one state with other values of `counts` and `weights`, and with something behind it.
unfoldable pub text_before : List ℕ
text_before =
    123 ∷ 34 ∷ 99 ∷ 111 ∷ 101 ∷ 102 ∷ 102 ∷ 105 ∷ 99 ∷ 105 ∷ 101 ∷ 110 ∷ 116 ∷ 115 ∷ 34 ∷ 58 ∷ 91 ∷ 91 ∷ 49 ∷ 93 ∷ 93 ∷ 44 ∷ 34 ∷ 99 ∷ 111 ∷ 117 ∷ 110
    ∷ 116 ∷ 115 ∷ 34 ∷ 58 ∷ []

unfoldable pub text_between : List ℕ
text_between =
    44 ∷ 34 ∷ 108 ∷ 101 ∷ 97 ∷ 100 ∷ 115 ∷ 34 ∷ 58 ∷ 91 ∷ 91 ∷ 49 ∷ 93 ∷ 93 ∷ 44 ∷ 34 ∷ 109 ∷ 111 ∷ 100 ∷ 117 ∷ 108 ∷ 117 ∷ 115 ∷ 34 ∷ 58 ∷ 50 ∷ 44 ∷ 34
    ∷ 111 ∷ 114 ∷ 100 ∷ 101
    ∷ 114 ∷ 34 ∷ 58 ∷ 48 ∷ 44 ∷ 34 ∷ 112 ∷ 111 ∷ 105 ∷ 110 ∷ 116 ∷ 115 ∷ 34 ∷ 58 ∷ 91 ∷ 91 ∷ 49 ∷ 93 ∷ 93 ∷ 44 ∷ 34 ∷ 115 ∷ 116 ∷ 97 ∷ 110 ∷ 100 ∷ 97
    ∷ 114 ∷ 100 ∷ 34 ∷ 58 ∷ 91
    ∷ 91 ∷ 48 ∷ 93 ∷ 93 ∷ 44 ∷ 34 ∷ 118 ∷ 97 ∷ 114 ∷ 105 ∷ 97 ∷ 98 ∷ 108 ∷ 101 ∷ 115 ∷ 34 ∷ 58 ∷ 49 ∷ 44 ∷ 34 ∷ 119 ∷ 101 ∷ 105 ∷ 103 ∷ 104 ∷ 116 ∷ 115
    ∷ 34 ∷ 58 ∷ []

unfoldable pub text_with : List ℕ → List ℕ → List ℕ → List ℕ
text_with counts weights behind = text_before ++ (counts ++ (text_between ++ (weights ++ (125 ∷ behind))))

-- Each of these is refused with 19: as `counts` a leading zero, a blank before or behind, a comma too many, too large a number, a sign, a fraction, a list too
-- short and too long, a number, nothing; as `weights` a weight in order 0; a line break at the end, and no end.
unfoldable pub faulty_texts : List (List ℕ)
faulty_texts =
    text_with (91 ∷ 48 ∷ 49 ∷ 93 ∷ []) (91 ∷ 93 ∷ []) ([])
    ∷ text_with (91 ∷ 32 ∷ 49 ∷ 93 ∷ []) (91 ∷ 93 ∷ []) ([])
    ∷ text_with (91 ∷ 49 ∷ 32 ∷ 93 ∷ []) (91 ∷ 93 ∷ []) ([])
    ∷ text_with (91 ∷ 49 ∷ 44 ∷ 93 ∷ []) (91 ∷ 93 ∷ []) ([])
    ∷ text_with (91 ∷ 44 ∷ 49 ∷ 93 ∷ []) (91 ∷ 93 ∷ []) ([])
    ∷ text_with (91 ∷ 50 ∷ 53 ∷ 54 ∷ 93 ∷ []) (91 ∷ 93 ∷ []) ([])
    ∷ text_with (91 ∷ 45 ∷ 49 ∷ 93 ∷ []) (91 ∷ 93 ∷ []) ([])
    ∷ text_with (91 ∷ 43 ∷ 49 ∷ 93 ∷ []) (91 ∷ 93 ∷ []) ([])
    ∷ text_with (91 ∷ 49 ∷ 46 ∷ 48 ∷ 93 ∷ []) (91 ∷ 93 ∷ []) ([])
    ∷ text_with (91 ∷ 93 ∷ []) (91 ∷ 93 ∷ []) ([])
    ∷ text_with (91 ∷ 49 ∷ 44 ∷ 49 ∷ 93 ∷ []) (91 ∷ 93 ∷ []) ([])
    ∷ text_with (49 ∷ []) (91 ∷ 93 ∷ []) ([])
    ∷ text_with ([]) (91 ∷ 93 ∷ []) ([])
    ∷ text_with (91 ∷ 49 ∷ 93 ∷ []) (91 ∷ 49 ∷ 93 ∷ []) ([])
    ∷ text_with (91 ∷ 49 ∷ 93 ∷ []) (91 ∷ 93 ∷ []) (10 ∷ []) ∷ text_before ∷ [] ∷ []

-- The text of no state with other values of `leads`.
unfoldable pub leads_before : List ℕ
leads_before =
    123 ∷ 34 ∷ 99 ∷ 111 ∷ 101 ∷ 102 ∷ 102 ∷ 105 ∷ 99 ∷ 105 ∷ 101 ∷ 110 ∷ 116 ∷ 115 ∷ 34 ∷ 58 ∷ 91 ∷ 91 ∷ 93 ∷ 93 ∷ 44 ∷ 34 ∷ 99 ∷ 111 ∷ 117 ∷ 110 ∷ 116
    ∷ 115 ∷ 34 ∷ 58 ∷ 91 ∷ 93
    ∷ 44 ∷ 34 ∷ 108 ∷ 101 ∷ 97 ∷ 100 ∷ 115 ∷ 34 ∷ 58 ∷ []

unfoldable pub leads_behind : List ℕ
leads_behind =
    44 ∷ 34 ∷ 109 ∷ 111 ∷ 100 ∷ 117 ∷ 108 ∷ 117 ∷ 115 ∷ 34 ∷ 58 ∷ 53 ∷ 44 ∷ 34 ∷ 111 ∷ 114 ∷ 100 ∷ 101 ∷ 114 ∷ 34 ∷ 58 ∷ 49 ∷ 44 ∷ 34 ∷ 112 ∷ 111 ∷ 105
    ∷ 110 ∷ 116 ∷ 115 ∷ 34 ∷ 58
    ∷ 91 ∷ 93 ∷ 44 ∷ 34 ∷ 115 ∷ 116 ∷ 97 ∷ 110 ∷ 100 ∷ 97 ∷ 114 ∷ 100 ∷ 34 ∷ 58 ∷ 91 ∷ 93 ∷ 44 ∷ 34 ∷ 118 ∷ 97 ∷ 114 ∷ 105 ∷ 97 ∷ 98 ∷ 108 ∷ 101 ∷ 115
    ∷ 34 ∷ 58 ∷ 50 ∷ 44 ∷ 34
    ∷ 119 ∷ 101 ∷ 105 ∷ 103 ∷ 104 ∷ 116 ∷ 115 ∷ 34 ∷ 58 ∷ 91 ∷ 93 ∷ 125 ∷ []

unfoldable pub leads_with : List ℕ → List ℕ
leads_with leads = leads_before ++ (leads ++ leads_behind)

-- Each of these is refused with 19 too: a blank for a comma and behind a comma, a lead of one exponent, of three, a comma too many, two leads for one row,
-- none, no list in the list.
unfoldable pub faulty_leads : List (List ℕ)
faulty_leads =
    leads_with (91 ∷ 91 ∷ 48 ∷ 32 ∷ 48 ∷ 93 ∷ 93 ∷ [])
    ∷ leads_with (91 ∷ 91 ∷ 48 ∷ 44 ∷ 32 ∷ 48 ∷ 93 ∷ 93 ∷ [])
    ∷ leads_with (91 ∷ 91 ∷ 48 ∷ 93 ∷ 93 ∷ [])
    ∷ leads_with (91 ∷ 91 ∷ 48 ∷ 44 ∷ 48 ∷ 44 ∷ 48 ∷ 93 ∷ 93 ∷ [])
    ∷ leads_with (91 ∷ 91 ∷ 48 ∷ 44 ∷ 48 ∷ 93 ∷ 44 ∷ 93 ∷ [])
    ∷ leads_with (91 ∷ 91 ∷ 48 ∷ 44 ∷ 48 ∷ 93 ∷ 44 ∷ 91 ∷ 48 ∷ 44 ∷ 48 ∷ 93 ∷ 93 ∷ [])
    ∷ leads_with (91 ∷ 93 ∷ [])
    ∷ leads_with (91 ∷ 48 ∷ 44 ∷ 48 ∷ 93 ∷ []) ∷ []
