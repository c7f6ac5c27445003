-- The words of a line as the parts between its spaces. Assumes nothing.
use Rattle.std.proofs.Common.{◌≡◌, ℕ, zero, suc, ◌+◌, ◌-◌, Bor, Option, None, Some, Bool, true, false, cond, List, [], ◌∷◌, length, take, drop, get_or, eqb, not, refl, sym, ap, ◌∙◌, arith}
use Rattle.std.specs.List.{slice_split, slice_get, onto_first, position, position_or_len}
use Rattle.std.specs.Option.{option_map, unwrap_or}
use Rattle.std.proofs.lemmas.Bool.Decides.{nat_tests}
use Rattle.std.proofs.lemmas.List.Sums.{prefix_len-le-length}
use Rattle.std.proofs.lemmas.Option.{unwrap_or-slice_get}
use Rattle.std.proofs.lemmas.List.Splits.{length-slice_split}
use Rattle.std.proofs.lemmas.List.Sums.{sum_by-cons}
use Rattle.std.proofs.lemmas.List.{take_rest}
use Rattle.text_words.specs.Words.{before, after, rest_of, word_of, word_count}

-- the parts of a line between its spaces
abbrev pub parts : List ℕ → List (List ℕ)
parts s = slice_split (λ b. eqb b 32) s

nothing_at : (k : ℕ) → get_or (parts []) k [] ≡ []
nothing_at zero = refl
nothing_at (suc k) = refl

onto_at : (c : ℕ) (t : List (List ℕ)) → (get_or (onto_first c t) 0 [] ≡ c ∷ get_or t 0 []) × ((k : ℕ) → get_or (onto_first c t) (suc k) [] ≡ get_or t (suc k) [])
onto_at c [] = (refl, λ k. refl)
onto_at c (x ∷ t) = (refl, λ k. refl)

first_part : (s : List ℕ) → before 32 s ≡ get_or (parts s) 0 []
unfolding before
first_part [] = refl
first_part (c ∷ r) = by (first_part r) (eqb c 32)
  where
    by : before 32 r ≡ get_or (parts r) 0 [] → (t : Bool) → cond t [] (c ∷ before 32 r) ≡ get_or (cond t ([] ∷ parts r) (onto_first c (parts r))) 0 []
    by e true = refl
    by e false = ap (λ w. c ∷ w) e ∙ sym (onto_at c (parts r)).0

later_part : (s : List ℕ) (k : ℕ) → get_or (parts (after 32 s)) k [] ≡ get_or (parts s) (suc k) []
unfolding before after
later_part [] k = nothing_at k
later_part (c ∷ r) k = by (later_part r k) (eqb c 32)
  where
    by : get_or (parts (after 32 r)) k [] ≡ get_or (parts r) (suc k) [] → (t : Bool) → get_or (parts (drop (suc (length (cond t [] (c ∷ before 32 r)))) (c ∷ r))) k [] ≡ get_or (cond t ([] ∷ parts r) (onto_first c (parts r))) (suc k) []
    by e true = refl
    by e false = e ∙ sym ((onto_at c (parts r)).1 k)

pub word_is_part : (k : ℕ) (s : List ℕ) → word_of k s ≡ get_or (parts s) k []
unfolding word_of rest_of
word_is_part zero s = first_part s
word_is_part (suc k) s = word_is_part k (after 32 s) ∙ later_part s k

-- the part that is found, and nothing where there is none
pub part_or_nothing : (r : Option (Bor (List ℕ))) (d : Bor (List ℕ)) (t : List (List ℕ)) (k : ℕ) → option_map (λ x. x.now) r ≡ slice_get t k → d.now ≡ [] → (unwrap_or r d).now ≡ get_or t k []
part_or_nothing r d t k e z = by r ∙ rw (e, z) (unwrap_or-slice_get t k [])
  where
    by : (o : Option (Bor (List ℕ))) → (unwrap_or o d).now ≡ unwrap_or (option_map (λ x. x.now) o) d.now
    by None = refl
    by (Some x) = refl

pub words_are_parts : (s : List ℕ) → word_count s ≡ length (parts s)
unfolding word_count
words_are_parts [] = refl
words_are_parts (c ∷ r) = omega (arith, words_are_parts r, length-slice_split (λ b. eqb b 32) (c ∷ r), length-slice_split (λ b. eqb b 32) r, sum_by-cons (λ b. cond (eqb b 32) 1 0) c r)

-- where a byte is found
pub before_first_byte : (stop : ℕ) (s : List ℕ) → length (before stop s) ≡ position_or_len (λ b. eqb b stop) s
unfolding before
before_first_byte stop [] = refl
before_first_byte stop (c ∷ r) = by (before_first_byte stop r) (eqb c stop)
  where
    by : length (before stop r) ≡ position_or_len (λ b. eqb b stop) r → (t : Bool) → length (cond t [] (c ∷ before stop r)) ≡ cond (not t) (1 + position_or_len (λ b. eqb b stop) r) 0
    by e true = refl
    by e false = omega arith

-- the place that is found, or the end
pub place_or_end : (stop : ℕ) (s : List ℕ) (r : Option ℕ) → r ≡ position (λ b. eqb b stop) s → unwrap_or r (length s) ≡ length (before stop s)
place_or_end stop s r e =
    let b = before_first_byte stop s in
    let p = prefix_len-le-length (λ x. not (eqb x stop)) s in
    rw e (grind (arith, nat_tests))

take_by : (b c : ℕ) (r : List ℕ) → take (length (before b r)) r ≡ before b r → (t : Bool) → take (length (cond t [] (c ∷ before b r))) (c ∷ r) ≡ cond t [] (c ∷ before b r)
take_by b c r e true = refl
take_by b c r e false = ap (λ (l : List ℕ). c ∷ l) e

-- what stands before a byte is the front of the list
pub take_before : (b : ℕ) (s : List ℕ) → take (length (before b s)) s ≡ before b s
unfolding before
take_before b [] = refl
take_before b (c ∷ r) = take_by b c r (take_before b r) (eqb c b)

-- what stands behind the first word of a line and the space after it
pub behind_word : (s w : List ℕ) → w ≡ word_of 0 s → take (length s - (length w + 1)) (drop (length w + 1) s) ≡ rest_of 1 s
unfolding word_of rest_of after
behind_word s w e =
    let q : w ≡ before 32 s = e in
    let p : length w + 1 ≡ suc (length (before 32 s)) = omega (arith, ap (λ (l : List ℕ). length l) q) in
    take_rest s (length w + 1) ∙ ap (λ (n : ℕ). drop n s) p

-- the words taken one after the other, each from what the one before it left, are the words of the line
pub next_word : (k : ℕ) (s : List ℕ) → (word_of 0 (rest_of k s) ≡ word_of k s) × (rest_of 1 (rest_of k s) ≡ rest_of (suc k) s)
unfolding word_of rest_of
next_word zero s = (refl, refl)
next_word (suc k) s = next_word k (after 32 s)
