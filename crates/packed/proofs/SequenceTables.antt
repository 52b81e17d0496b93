-- The constant tables: one computed test each. And the tables of each order by its number in the settings.
use mathlib.Core.Path.{◌≡◌, refl, sym, ap, subst}
use mathlib.Core.List.{List, [], ◌∷◌}
use Prim.Native.Nat.{ℕ, ◌≤◌}
use Rattle.monomial.specs.Order.{Order, lex, grlex, grevlex, weighted, cmp, order_of, Light, LightOrder}
use Rattle.residue.specs.Words.{bit_of, bits_of, word_of, column_of}
use Rattle.words.specs.Sequences.{Sequence, Squares}
use Rattle.packed.proofs.SquareTables.{in_turn, square_test, fall_test, squares_in_turn}
use Rattle.orders.proofs.SequenceLaws.{place_of, in_order, stands, marked, sequence_test, sequence}

abbrev lex_bytes : List ℕ
lex_bytes = 0 ∷ 128 ∷ 64 ∷ 192 ∷ 32 ∷ 160 ∷ 96 ∷ 224 ∷ 16 ∷ 144 ∷ 80 ∷ 208 ∷ 48 ∷ 176 ∷ 112 ∷ 240 ∷ 8 ∷ 136 ∷ 72 ∷ 200 ∷ 40 ∷ 168 ∷ 104 ∷ 232 ∷ 24 ∷ 152 ∷ 88 ∷ 216 ∷ 56 ∷ 184 ∷ 120 ∷ 248 ∷ 4 ∷ 132 ∷ 68 ∷ 196 ∷ 36 ∷ 164 ∷ 100 ∷ 228 ∷ 20 ∷ 148 ∷ 84 ∷ 212 ∷ 52 ∷ 180 ∷ 116 ∷ 244 ∷ 12 ∷ 140 ∷ 76 ∷ 204 ∷ 44 ∷ 172 ∷ 108 ∷ 236 ∷ 28 ∷ 156 ∷ 92 ∷ 220 ∷ 60 ∷ 188 ∷ 124 ∷ 252 ∷ 2 ∷ 130 ∷ 66 ∷ 194 ∷ 34 ∷ 162 ∷ 98 ∷ 226 ∷ 18 ∷ 146 ∷ 82 ∷ 210 ∷ 50 ∷ 178 ∷ 114 ∷ 242 ∷ 10 ∷ 138 ∷ 74 ∷ 202 ∷ 42 ∷ 170 ∷ 106 ∷ 234 ∷ 26 ∷ 154 ∷ 90 ∷ 218 ∷ 58 ∷ 186 ∷ 122 ∷ 250 ∷ 6 ∷ 134 ∷ 70 ∷ 198 ∷ 38 ∷ 166 ∷ 102 ∷ 230 ∷ 22 ∷ 150 ∷ 86 ∷ 214 ∷ 54 ∷ 182 ∷ 118 ∷ 246 ∷ 14 ∷ 142 ∷ 78 ∷ 206 ∷ 46 ∷ 174 ∷ 110 ∷ 238 ∷ 30 ∷ 158 ∷ 94 ∷ 222 ∷ 62 ∷ 190 ∷ 126 ∷ 254 ∷ 1 ∷ 129 ∷ 65 ∷ 193 ∷ 33 ∷ 161 ∷ 97 ∷ 225 ∷ 17 ∷ 145 ∷ 81 ∷ 209 ∷ 49 ∷ 177 ∷ 113 ∷ 241 ∷ 9 ∷ 137 ∷ 73 ∷ 201 ∷ 41 ∷ 169 ∷ 105 ∷ 233 ∷ 25 ∷ 153 ∷ 89 ∷ 217 ∷ 57 ∷ 185 ∷ 121 ∷ 249 ∷ 5 ∷ 133 ∷ 69 ∷ 197 ∷ 37 ∷ 165 ∷ 101 ∷ 229 ∷ 21 ∷ 149 ∷ 85 ∷ 213 ∷ 53 ∷ 181 ∷ 117 ∷ 245 ∷ 13 ∷ 141 ∷ 77 ∷ 205 ∷ 45 ∷ 173 ∷ 109 ∷ 237 ∷ 29 ∷ 157 ∷ 93 ∷ 221 ∷ 61 ∷ 189 ∷ 125 ∷ 253 ∷ 3 ∷ 131 ∷ 67 ∷ 195 ∷ 35 ∷ 163 ∷ 99 ∷ 227 ∷ 19 ∷ 147 ∷ 83 ∷ 211 ∷ 51 ∷ 179 ∷ 115 ∷ 243 ∷ 11 ∷ 139 ∷ 75 ∷ 203 ∷ 43 ∷ 171 ∷ 107 ∷ 235 ∷ 27 ∷ 155 ∷ 91 ∷ 219 ∷ 59 ∷ 187 ∷ 123 ∷ 251 ∷ 7 ∷ 135 ∷ 71 ∷ 199 ∷ 39 ∷ 167 ∷ 103 ∷ 231 ∷ 23 ∷ 151 ∷ 87 ∷ 215 ∷ 55 ∷ 183 ∷ 119 ∷ 247 ∷ 15 ∷ 143 ∷ 79 ∷ 207 ∷ 47 ∷ 175 ∷ 111 ∷ 239 ∷ 31 ∷ 159 ∷ 95 ∷ 223 ∷ 63 ∷ 191 ∷ 127 ∷ 255 ∷ []

abbrev lex_multiples : List ℕ
lex_multiples = 0 ∷ 0 ∷ 18446744073709551615 ∷ 18446744073709551615 ∷ 0 ∷ 18446744073709551615 ∷ 0 ∷ 18446744073709551615 ∷ 18446744069414584320 ∷ 18446744069414584320 ∷ 18446744069414584320 ∷ 18446744069414584320 ∷ 18446462603027742720 ∷ 18446462603027742720 ∷ 18446462603027742720 ∷ 18446462603027742720 ∷ 18374966859414961920 ∷ 18374966859414961920 ∷ 18374966859414961920 ∷ 18374966859414961920 ∷ 17361641481138401520 ∷ 17361641481138401520 ∷ 17361641481138401520 ∷ 17361641481138401520 ∷ 14757395258967641292 ∷ 14757395258967641292 ∷ 14757395258967641292 ∷ 14757395258967641292 ∷ 12297829382473034410 ∷ 12297829382473034410 ∷ 12297829382473034410 ∷ 12297829382473034410 ∷ []

pub lex_sequence : Sequence lex lex_bytes lex_multiples
unfolding sequence_test in_order stands marked place_of bit_of bits_of word_of column_of cmp
lex_sequence = sequence lex lex_bytes lex_multiples refl refl tt

abbrev grlex_bytes : List ℕ
grlex_bytes = 0 ∷ 128 ∷ 64 ∷ 32 ∷ 16 ∷ 8 ∷ 4 ∷ 2 ∷ 1 ∷ 192 ∷ 160 ∷ 96 ∷ 144 ∷ 80 ∷ 48 ∷ 136 ∷ 72 ∷ 40 ∷ 24 ∷ 132 ∷ 68 ∷ 36 ∷ 20 ∷ 12 ∷ 130 ∷ 66 ∷ 34 ∷ 18 ∷ 10 ∷ 6 ∷ 129 ∷ 65 ∷ 33 ∷ 17 ∷ 9 ∷ 5 ∷ 3 ∷ 224 ∷ 208 ∷ 176 ∷ 112 ∷ 200 ∷ 168 ∷ 104 ∷ 152 ∷ 88 ∷ 56 ∷ 196 ∷ 164 ∷ 100 ∷ 148 ∷ 84 ∷ 52 ∷ 140 ∷ 76 ∷ 44 ∷ 28 ∷ 194 ∷ 162 ∷ 98 ∷ 146 ∷ 82 ∷ 50 ∷ 138 ∷ 74 ∷ 42 ∷ 26 ∷ 134 ∷ 70 ∷ 38 ∷ 22 ∷ 14 ∷ 193 ∷ 161 ∷ 97 ∷ 145 ∷ 81 ∷ 49 ∷ 137 ∷ 73 ∷ 41 ∷ 25 ∷ 133 ∷ 69 ∷ 37 ∷ 21 ∷ 13 ∷ 131 ∷ 67 ∷ 35 ∷ 19 ∷ 11 ∷ 7 ∷ 240 ∷ 232 ∷ 216 ∷ 184 ∷ 120 ∷ 228 ∷ 212 ∷ 180 ∷ 116 ∷ 204 ∷ 172 ∷ 108 ∷ 156 ∷ 92 ∷ 60 ∷ 226 ∷ 210 ∷ 178 ∷ 114 ∷ 202 ∷ 170 ∷ 106 ∷ 154 ∷ 90 ∷ 58 ∷ 198 ∷ 166 ∷ 102 ∷ 150 ∷ 86 ∷ 54 ∷ 142 ∷ 78 ∷ 46 ∷ 30 ∷ 225 ∷ 209 ∷ 177 ∷ 113 ∷ 201 ∷ 169 ∷ 105 ∷ 153 ∷ 89 ∷ 57 ∷ 197 ∷ 165 ∷ 101 ∷ 149 ∷ 85 ∷ 53 ∷ 141 ∷ 77 ∷ 45 ∷ 29 ∷ 195 ∷ 163 ∷ 99 ∷ 147 ∷ 83 ∷ 51 ∷ 139 ∷ 75 ∷ 43 ∷ 27 ∷ 135 ∷ 71 ∷ 39 ∷ 23 ∷ 15 ∷ 248 ∷ 244 ∷ 236 ∷ 220 ∷ 188 ∷ 124 ∷ 242 ∷ 234 ∷ 218 ∷ 186 ∷ 122 ∷ 230 ∷ 214 ∷ 182 ∷ 118 ∷ 206 ∷ 174 ∷ 110 ∷ 158 ∷ 94 ∷ 62 ∷ 241 ∷ 233 ∷ 217 ∷ 185 ∷ 121 ∷ 229 ∷ 213 ∷ 181 ∷ 117 ∷ 205 ∷ 173 ∷ 109 ∷ 157 ∷ 93 ∷ 61 ∷ 227 ∷ 211 ∷ 179 ∷ 115 ∷ 203 ∷ 171 ∷ 107 ∷ 155 ∷ 91 ∷ 59 ∷ 199 ∷ 167 ∷ 103 ∷ 151 ∷ 87 ∷ 55 ∷ 143 ∷ 79 ∷ 47 ∷ 31 ∷ 252 ∷ 250 ∷ 246 ∷ 238 ∷ 222 ∷ 190 ∷ 126 ∷ 249 ∷ 245 ∷ 237 ∷ 221 ∷ 189 ∷ 125 ∷ 243 ∷ 235 ∷ 219 ∷ 187 ∷ 123 ∷ 231 ∷ 215 ∷ 183 ∷ 119 ∷ 207 ∷ 175 ∷ 111 ∷ 159 ∷ 95 ∷ 63 ∷ 254 ∷ 253 ∷ 251 ∷ 247 ∷ 239 ∷ 223 ∷ 191 ∷ 127 ∷ 255 ∷ []

abbrev grlex_multiples : List ℕ
grlex_multiples = 136365211904 ∷ 536870656 ∷ 18374686514031362047 ∷ 18410715259644936191 ∷ 18302628955410137216 ∷ 18446726482051989759 ∷ 72055429373362176 ∷ 18374685397205647232 ∷ 143974485500362816 ∷ 18428747250482807032 ∷ 16212890453380430848 ∷ 18302594783324799103 ∷ 9358618581598175264 ∷ 17311572826188398727 ∷ 2232727600098116592 ∷ 18157984797560010878 ∷ 8150514503810052112 ∷ 10248202892005750852 ∷ 15988829647668831118 ∷ 17866305218483963761 ∷ 5517839322413419528 ∷ 5307168592550241826 ∷ 13518530343243913837 ∷ 17279673913794442957 ∷ 3047436528856934916 ∷ 2690255840250205457 ∷ 8599323839489529179 ∷ 16117107353583267243 ∷ 10819219569735407106 ∷ 1354302410235071240 ∷ 17234676506902473911 ∷ 13805485032071388054 ∷ []

pub grlex_sequence : Sequence grlex grlex_bytes grlex_multiples
unfolding sequence_test in_order stands marked place_of bit_of bits_of word_of column_of cmp
grlex_sequence = sequence grlex grlex_bytes grlex_multiples refl refl tt

abbrev grevlex_bytes : List ℕ
grevlex_bytes = 0 ∷ 128 ∷ 64 ∷ 32 ∷ 16 ∷ 8 ∷ 4 ∷ 2 ∷ 1 ∷ 192 ∷ 160 ∷ 144 ∷ 136 ∷ 132 ∷ 130 ∷ 129 ∷ 96 ∷ 80 ∷ 72 ∷ 68 ∷ 66 ∷ 65 ∷ 48 ∷ 40 ∷ 36 ∷ 34 ∷ 33 ∷ 24 ∷ 20 ∷ 18 ∷ 17 ∷ 12 ∷ 10 ∷ 9 ∷ 6 ∷ 5 ∷ 3 ∷ 224 ∷ 208 ∷ 200 ∷ 196 ∷ 194 ∷ 193 ∷ 176 ∷ 168 ∷ 164 ∷ 162 ∷ 161 ∷ 152 ∷ 148 ∷ 146 ∷ 145 ∷ 140 ∷ 138 ∷ 137 ∷ 134 ∷ 133 ∷ 131 ∷ 112 ∷ 104 ∷ 100 ∷ 98 ∷ 97 ∷ 88 ∷ 84 ∷ 82 ∷ 81 ∷ 76 ∷ 74 ∷ 73 ∷ 70 ∷ 69 ∷ 67 ∷ 56 ∷ 52 ∷ 50 ∷ 49 ∷ 44 ∷ 42 ∷ 41 ∷ 38 ∷ 37 ∷ 35 ∷ 28 ∷ 26 ∷ 25 ∷ 22 ∷ 21 ∷ 19 ∷ 14 ∷ 13 ∷ 11 ∷ 7 ∷ 240 ∷ 232 ∷ 228 ∷ 226 ∷ 225 ∷ 216 ∷ 212 ∷ 210 ∷ 209 ∷ 204 ∷ 202 ∷ 201 ∷ 198 ∷ 197 ∷ 195 ∷ 184 ∷ 180 ∷ 178 ∷ 177 ∷ 172 ∷ 170 ∷ 169 ∷ 166 ∷ 165 ∷ 163 ∷ 156 ∷ 154 ∷ 153 ∷ 150 ∷ 149 ∷ 147 ∷ 142 ∷ 141 ∷ 139 ∷ 135 ∷ 120 ∷ 116 ∷ 114 ∷ 113 ∷ 108 ∷ 106 ∷ 105 ∷ 102 ∷ 101 ∷ 99 ∷ 92 ∷ 90 ∷ 89 ∷ 86 ∷ 85 ∷ 83 ∷ 78 ∷ 77 ∷ 75 ∷ 71 ∷ 60 ∷ 58 ∷ 57 ∷ 54 ∷ 53 ∷ 51 ∷ 46 ∷ 45 ∷ 43 ∷ 39 ∷ 30 ∷ 29 ∷ 27 ∷ 23 ∷ 15 ∷ 248 ∷ 244 ∷ 242 ∷ 241 ∷ 236 ∷ 234 ∷ 233 ∷ 230 ∷ 229 ∷ 227 ∷ 220 ∷ 218 ∷ 217 ∷ 214 ∷ 213 ∷ 211 ∷ 206 ∷ 205 ∷ 203 ∷ 199 ∷ 188 ∷ 186 ∷ 185 ∷ 182 ∷ 181 ∷ 179 ∷ 174 ∷ 173 ∷ 171 ∷ 167 ∷ 158 ∷ 157 ∷ 155 ∷ 151 ∷ 143 ∷ 124 ∷ 122 ∷ 121 ∷ 118 ∷ 117 ∷ 115 ∷ 110 ∷ 109 ∷ 107 ∷ 103 ∷ 94 ∷ 93 ∷ 91 ∷ 87 ∷ 79 ∷ 62 ∷ 61 ∷ 59 ∷ 55 ∷ 47 ∷ 31 ∷ 252 ∷ 250 ∷ 249 ∷ 246 ∷ 245 ∷ 243 ∷ 238 ∷ 237 ∷ 235 ∷ 231 ∷ 222 ∷ 221 ∷ 219 ∷ 215 ∷ 207 ∷ 190 ∷ 189 ∷ 187 ∷ 183 ∷ 175 ∷ 159 ∷ 126 ∷ 125 ∷ 123 ∷ 119 ∷ 111 ∷ 95 ∷ 63 ∷ 254 ∷ 253 ∷ 251 ∷ 247 ∷ 239 ∷ 223 ∷ 191 ∷ 127 ∷ 255 ∷ []

abbrev grevlex_multiples : List ℕ
grevlex_multiples = 4848270247211335936 ∷ 17092441663443734948 ∷ 15741939180396008264 ∷ 18410429256159915325 ∷ 2496192752003334272 ∷ 15756488233398389074 ∷ 13073198921309596324 ∷ 18374114438744496827 ∷ 1266110783101083712 ∷ 13139575481039529161 ∷ 7843912202738951570 ∷ 18301484804316313207 ∷ 9831657618643619872 ∷ 8198541181474890296 ∷ 16409115440753089649 ∷ 18156225537607430638 ∷ 9515833610645669904 ∷ 1135171247155977735 ∷ 2272031359204654095 ∷ 17865707025127641054 ∷ 8935414477155795976 ∷ 17996822966959616 ∷ 18410750427775632383 ∷ 17284670371682910145 ∷ 18158522356216037892 ∷ 17591649174015 ∷ 36028762660274175 ∷ 16122609588924055488 ∷ 288230238712823298 ∷ 18446744073172680704 ∷ 18446744039349813248 ∷ 13799310733105692735 ∷ []

pub grevlex_sequence : Sequence grevlex grevlex_bytes grevlex_multiples
unfolding sequence_test in_order stands marked place_of bit_of bits_of word_of column_of cmp
grevlex_sequence = sequence grevlex grevlex_bytes grevlex_multiples refl refl tt

abbrev lex_before : List ℕ
lex_before = 256 ∷ 128 ∷ 64 ∷ 32 ∷ 16 ∷ 8 ∷ 4 ∷ 2 ∷ []

lex_squares : (m : ℕ) → m ≤ 8 → Squares lex m lex_bytes in_turn lex_before
unfolding square_test fall_test bits_of cmp
lex_squares m h = squares_in_turn lex lex_bytes lex_multiples lex_sequence lex_before refl tt tt m h

abbrev grlex_before : List ℕ
grlex_before = 37 ∷ 30 ∷ 24 ∷ 19 ∷ 15 ∷ 12 ∷ 10 ∷ 9 ∷ []

grlex_squares : (m : ℕ) → m ≤ 8 → Squares grlex m grlex_bytes in_turn grlex_before
unfolding square_test fall_test bits_of cmp
grlex_squares m h = squares_in_turn grlex grlex_bytes grlex_multiples grlex_sequence grlex_before refl tt tt m h

abbrev grevlex_before : List ℕ
grevlex_before = 37 ∷ 36 ∷ 34 ∷ 31 ∷ 27 ∷ 22 ∷ 16 ∷ 9 ∷ []

grevlex_squares : (m : ℕ) → m ≤ 8 → Squares grevlex m grevlex_bytes in_turn grevlex_before
unfolding square_test fall_test bits_of cmp
grevlex_squares m h = squares_in_turn grevlex grevlex_bytes grevlex_multiples grevlex_sequence grevlex_before refl tt tt m h

-- by the order's number
pub lex_under_lem : (o : ℕ) (w : List ℕ) (m : ℕ) → o ≡ 0 → m ≤ 8 → Sequence (order_of o w) lex_bytes lex_multiples × Squares (order_of o w) m lex_bytes in_turn lex_before
unfolding order_of
lex_under_lem o w m e h = rw e (lex_sequence, lex_squares m h)

pub grlex_under : (o : ℕ) (w : List ℕ) (m : ℕ) → o ≡ 1 → m ≤ 8 → Sequence (order_of o w) grlex_bytes grlex_multiples × Squares (order_of o w) m grlex_bytes in_turn grlex_before
unfolding order_of
grlex_under o w m e h = rw e (grlex_sequence, grlex_squares m h)

pub grevlex_under : (o : ℕ) (w : List ℕ) (m : ℕ) → o ≡ 2 → m ≤ 8 → Sequence (order_of o w) grevlex_bytes grevlex_multiples × Squares (order_of o w) m grevlex_bytes in_turn grevlex_before
unfolding order_of
grevlex_under o w m e h = rw e (grevlex_sequence, grevlex_squares m h)

third : (o : ℕ) (w : List ℕ) → o ≡ 3 → order_of o w ≡ weighted w
unfolding order_of
third o w e = ap (λ (n : ℕ). order_of n w) e

pub weighted_under : {m : ℕ} {bytes multiples squares before : List ℕ} (o : ℕ) (w : List ℕ) → o ≡ 3
    → Sequence (weighted w) bytes multiples × Squares (weighted w) m bytes squares before
    → Sequence (order_of o w) bytes multiples × Squares (order_of o w) m bytes squares before
weighted_under {m} {bytes} {multiples} {squares} {before} o w e t =
    subst (λ (a : Order). Sequence a bytes multiples × Squares a m bytes squares before) (sym (third o w e)) t

pub light_of : (o : ℕ) (w : List ℕ) → o ≡ 3 → LightOrder (order_of o w) → Light w
light_of o w e h = subst LightOrder (third o w e) h
