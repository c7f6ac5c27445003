-- Demand 1 for lines of text: every public call asks nothing, is determined, and keeps lent memory where it puts nothing.
-- A part of a line that is handed out is determined by what it holds. Assumes nothing.
use mathlib.Core.Path.{◌≡◌, refl, sym, ◌∙◌, subst}
use mathlib.Core.Bool.{Bool, true, false, cond, ◌&&◌, true≢false}
use Rattle.std.specs.Prelude.{Option, Some, None}
use mathlib.Core.List.{List, []}
use Prim.Native.Nat.{ℕ, ◌+◌, ◌-◌, ◌≤◌, ◌<◌}
use native.Mathlib.Omega.{arith}
use lib.ListN.{length}
use lib.Seq.{paste, paste-zero}
use Rattle.octets_slice.specs.Slices.{copied}
use Rattle.text_put.specs.Places.{fits}
use Rattle.text_hex.specs.Written.{hex_word}
use Rattle.text_hex.specs.Hex.{is_bytes, unhex, bytes_of, decode_answer}
use Rattle.text_words.proofs.find.Reads as find
use Rattle.text_words.proofs.count.Reads as count
use Rattle.text_words.proofs.word.Reads as word
use Rattle.text_hex.proofs.decode.Reads as decode
use Rattle.text_decimal.proofs.decimal.Reads as decimal
use Rattle.text_put.proofs.put.Reads as put
use Rattle.text_hex.proofs.put_hex.Reads as put_hex
use borrow.Author.Tests.{ltb-true, ltb-false, lt-ltb, leb-true, leb-false, le-leb}
use lib.Dec.{ltb, leb}
use Rattle.text_decimal.specs.Numbers.{all_decimal, value_from, number_of}

pub find_asks_nothing : (κs : _) (a : _) → find.Asked κs a
find_asks_nothing κs a = tt

pub find_determined : (κs : _) (a : _) (r r' : _) (s s' : _) → find.Post κs a r s → find.Post κs a r' s' → r ≡ r'
find_determined κs a r r' s s' p q = p ∙ sym q

pub count_asks_nothing : (κs : _) (a : _) → count.Asked κs a
count_asks_nothing κs a = tt

pub count_determined : (κs : _) (a : _) (r r' : _) (s s' : _) → count.Post κs a r s → count.Post κs a r' s' → r ≡ r'
count_determined κs a r r' s s' p q = p ∙ sym q

pub word_asks_nothing : (κs : _) (a : _) → word.Asked κs a
word_asks_nothing κs a = tt

pub word_determined : (κs : _) (a : _) (r r' : _) (s s' : _) → word.Post κs a r s → word.Post κs a r' s' → r.now ≡ r'.now
word_determined κs a r r' s s' p q = p ∙ sym q

pub decode_asks_nothing : (κs : _) (a : _) → decode.Asked κs a
decode_asks_nothing κs a = tt

pub decode_determined : (κs : _) (a : _) (r r' : _) (s s' : _) → decode.Post κs a r s → decode.Post κs a r' s' → (r ≡ r') × (s.1.0.now ≡ s'.1.0.now)
decode_determined κs a r r' s s' p q = (p.0 ∙ sym q.0, p.1 ∙ sym q.1)

pub decimal_asks_nothing : (κs : _) (a : _) → decimal.Asked κs a
decimal_asks_nothing κs a = tt

pub decimal_determined : (κs : _) (a : _) (r r' : _) (s s' : _) → decimal.Post κs a r s → decimal.Post κs a r' s' → r ≡ r'
decimal_determined κs a r r' s s' p q = p ∙ sym q

pub put_asks_nothing : (κs : _) (a : _) → put.Asked κs a
put_asks_nothing κs a = tt

pub put_determined : (κs : _) (a : _) (r r' : _) (s s' : _) → put.Post κs a r s → put.Post κs a r' s' → (r ≡ r') × (s.1.0.now ≡ s'.1.0.now)
put_determined κs a r r' s s' p q = (p.0 ∙ sym q.0, p.1 ∙ sym q.1)

pub put_hex_asks_nothing : (κs : _) (a : _) → put_hex.Asked κs a
put_hex_asks_nothing κs a = tt

pub put_hex_determined : (κs : _) (a : _) (r r' : _) (s s' : _) → put_hex.Post κs a r s → put_hex.Post κs a r' s' → (r ≡ r') × (s.1.0.now ≡ s'.1.0.now)
put_hex_determined κs a r r' s s' p q = (p.0 ∙ sym q.0, p.1 ∙ sym q.1)

-- ---- what puts nothing leaves the memory as it was

kept : (s out : List ℕ) (at : ℕ) → fits s out at ≡ false → copied s at out ≡ out
unfolding fits copied
kept s out at e = rw e

pub put_refused_keeps : (κs : _) (a : _) (r : _) (s : _) → put.Post κs a r s → fits a.0.now a.1.0.now a.1.1.0 ≡ false → s.1.0.now ≡ a.1.0.now
put_refused_keeps κs a r s p e = p.1 ∙ kept _ _ _ e

pub put_hex_refused_keeps : (κs : _) (a : _) (r : _) (s : _) → put_hex.Post κs a r s → fits (hex_word a.0.now) a.1.0.now a.1.1.0 ≡ false → s.1.0.now ≡ a.1.0.now
put_hex_refused_keeps κs a r s p e = p.1 ∙ kept _ _ _ e

-- a word that stands for no bytes puts none either
empty : (out : List ℕ) (at : ℕ) (b : Bool) → cond b (paste out at [] 0) out ≡ out
empty out at true = sym (paste-zero out at [])
empty out at false = refl

bad : (w out : List ℕ) (at : ℕ) → decode_answer w out at ≡ None → copied (bytes_of w) at out ≡ out
unfolding decode_answer bytes_of fits copied
bad w out at = each (is_bytes w) (fits (unhex w) out at) refl
  where
    each : (a b : Bool) → fits (unhex w) out at ≡ b
        → cond (a && fits (cond a (unhex w) []) out at) (Some (at + length (cond a (unhex w) []))) None ≡ None
        → cond (fits (cond a (unhex w) []) out at) (paste out at (cond a (unhex w) []) (length (cond a (unhex w) []))) out ≡ out
    each true true e h = absurd (let z : ◌≡◌ {A = ℕ} 0 1 = cc in omega arith)
    each true false e h = rw e
    each false b e h = empty out at (fits [] out at)

pub decode_refused_keeps : (κs : _) (a : _) (r : _) (s : _) → decode.Post κs a r s → r ≡ None → s.1.0.now ≡ a.1.0.now
decode_refused_keeps κs a r s p e = p.1 ∙ bad _ _ _ (sym p.0 ∙ e)

-- ---- words of hex and of decimal digits

-- where a word was put, or that it stands for no bytes or has no room
abbrev pub DecodeSays : (word out : List ℕ) (at : ℕ) → Option ℕ → Type 0
DecodeSays word out at (Some place) = (is_bytes word ≡ true) × (at + length (bytes_of word) ≤ length out) × (place ≡ at + length (bytes_of word))
DecodeSays word out at None = is_bytes word ≡ true → at + length (bytes_of word) ≤ length out → ⊥

decoded : (word out : List ℕ) (at : ℕ) → DecodeSays word out at (decode_answer word out at)
unfolding decode_answer fits
decoded word out at = go (is_bytes word) (leb (at + length (bytes_of word)) (length out)) refl refl
  where
    go : (a b : Bool) → is_bytes word ≡ a → leb (at + length (bytes_of word)) (length out) ≡ b → DecodeSays word out at (cond (a && b) (Some (at + length (bytes_of word))) None)
    go true true e f = (e, leb-true _ _ f, refl)
    go true false e f = λ x h. omega (arith, leb-false (at + length (bytes_of word)) (length out) f)
    go false b e f = λ x h. true≢false (sym x ∙ e)

pub decode_as_told : (κs : _) (a : _) (r : _) (s : _) → decode.Post κs a r s → DecodeSays a.0.now a.1.0.now a.1.1.0 r
decode_as_told κs a r s p = subst (DecodeSays a.0.now a.1.0.now a.1.1.0) (sym p.0) (decoded a.0.now a.1.0.now a.1.1.0)

pub decode_done : (κs : _) (a : _) (r : _) (s : _) → decode.Post κs a r s → is_bytes a.0.now ≡ true → a.1.1.0 + length (bytes_of a.0.now) ≤ length a.1.0.now
    → r ≡ Some (a.1.1.0 + length (bytes_of a.0.now))
unfolding decode_answer fits
decode_done κs a r s p b h = p.0 ∙ rw (b, le-leb (a.1.1.0 + length (bytes_of a.0.now)) (length a.1.0.now) h)

-- which number a word is, or that it is empty, has another byte than a digit, or is more than the most asked for
abbrev pub DecimalSays : (word : List ℕ) (most : ℕ) → Option ℕ → Type 0
DecimalSays word most (Some v) = (0 < length word) × (all_decimal word ≡ true) × (value_from 0 word ≤ most) × (v ≡ value_from 0 word)
DecimalSays word most None = 0 < length word → all_decimal word ≡ true → value_from 0 word ≤ most → ⊥

numbered : (word : List ℕ) (most : ℕ) → DecimalSays word most (number_of word most)
unfolding number_of
numbered word most = go (ltb 0 (length word)) (all_decimal word) (leb (value_from 0 word) most) refl refl refl
  where
    go : (a b c : Bool) → ltb 0 (length word) ≡ a → all_decimal word ≡ b → leb (value_from 0 word) most ≡ c → DecimalSays word most (cond (a && (b && c)) (Some (value_from 0 word)) None)
    go true true true e f g = (ltb-true _ _ e, f, leb-true _ _ g, refl)
    go true true false e f g = λ l d h. omega (arith, leb-false (value_from 0 word) most g)
    go true false c e f g = λ l d h. true≢false (sym d ∙ f)
    go false b c e f g = λ l d h. omega (arith, ltb-false 0 (length word) e)

pub decimal_as_told : (κs : _) (a : _) (r : _) (s : _) → decimal.Post κs a r s → DecimalSays a.0.now a.1.0 r
decimal_as_told κs a r s p = subst (DecimalSays a.0.now a.1.0) (sym p) (numbered a.0.now a.1.0)

pub decimal_done : (κs : _) (a : _) (r : _) (s : _) → decimal.Post κs a r s → 0 < length a.0.now → all_decimal a.0.now ≡ true → value_from 0 a.0.now ≤ a.1.0
    → r ≡ Some (value_from 0 a.0.now)
unfolding number_of
decimal_done κs a r s p l d h = p ∙ rw (lt-ltb 0 (length a.0.now) l, d, le-leb (value_from 0 a.0.now) a.1.0 h)
