-- Request E5, the bench model for apprentices: demand 1 for its calls, each way undoes the other for every key and block, the worked
-- example step by step, and the rules that its numbers are held to. Assumes nothing.
use mathlib.Core.Path.{◌≡◌, refl, sym, ap, ap₂, ◌∙◌}
use mathlib.Core.Bool.{true, cond}
use mathlib.Core.List.{List, [], ◌∷◌, map}
use Prim.Native.Nat.{ℕ, ◌*◌, ◌<◌}
use lib.Dec.{eqb, ltb}
use Rattle.octets.specs.Octets.{xor, tabulate}
use Rattle.saes_spec.specs.Nibbles.{x_times, with_digit, ◌•₄◌}
use Rattle.saes_spec.specs.Sbox.{s_box, inv_s_box, power, inverse, s_rule, inv_s_rule}
use Rattle.saes_spec.specs.Saes.{word, state, ◌⊕◌, state_of, number_of, rot_nib, sub_nib, g, next_key, key0, key1, key2, add_round_key, sub_nibbles, shift_rows, mix_columns, round, encrypted, inv_sub_nibbles, inv_round, decrypted}
use Rattle.saes_spec.specs.declared.Word.{Word}
use Rattle.saes_spec.specs.declared.State.{State}
use Rattle.saes_spec.specs.declared.States.{States}
use Rattle.saes_spec.proofs.Undo.{decrypt_undoes_encrypt, encrypt_undoes_decrypt}
use Rattle.saes_spec.proofs.Pins as pins
use Rattle.saes.proofs.encrypt.Reads as encrypt
use Rattle.saes.proofs.decrypt.Reads as decrypt
use Rattle.dock.proofs.dock_saes_encrypt.Reads as dock_encrypt
use Rattle.dock.proofs.dock_saes_decrypt.Reads as dock_decrypt

-- ---- demand 1: the calls and their exports

pub saes_encrypt_asks_nothing : (κs : _) (a : _) → encrypt.Asked κs a
saes_encrypt_asks_nothing κs a = tt

pub saes_encrypt_determined : (κs : _) (a : _) (r r' : _) (s s' : _) → encrypt.Post κs a r s → encrypt.Post κs a r' s' → r ≡ r'
saes_encrypt_determined κs a r r' s s' p q = p ∙ sym q

pub saes_decrypt_asks_nothing : (κs : _) (a : _) → decrypt.Asked κs a
saes_decrypt_asks_nothing κs a = tt

pub saes_decrypt_determined : (κs : _) (a : _) (r r' : _) (s s' : _) → decrypt.Post κs a r s → decrypt.Post κs a r' s' → r ≡ r'
saes_decrypt_determined κs a r r' s s' p q = p ∙ sym q

pub dock_saes_encrypt_asks_nothing : (κs : _) (a : _) → dock_encrypt.Asked κs a
dock_saes_encrypt_asks_nothing κs a = tt

pub dock_saes_encrypt_determined : (κs : _) (a : _) (r r' : _) (s s' : _) → dock_encrypt.Post κs a r s → dock_encrypt.Post κs a r' s' → r ≡ r'
dock_saes_encrypt_determined κs a r r' s s' p q = p ∙ sym q

pub dock_saes_encrypt_is_encrypt : (κs : _) (a : _) (r : _) (s : _) → dock_encrypt.Post κs a r s → encrypt.Post κs a r s
dock_saes_encrypt_is_encrypt κs a r s p = p

pub dock_saes_decrypt_asks_nothing : (κs : _) (a : _) → dock_decrypt.Asked κs a
dock_saes_decrypt_asks_nothing κs a = tt

pub dock_saes_decrypt_determined : (κs : _) (a : _) (r r' : _) (s s' : _) → dock_decrypt.Post κs a r s → dock_decrypt.Post κs a r' s' → r ≡ r'
dock_saes_decrypt_determined κs a r r' s s' p q = p ∙ sym q

pub dock_saes_decrypt_is_decrypt : (κs : _) (a : _) (r : _) (s : _) → dock_decrypt.Post κs a r s → decrypt.Post κs a r s
dock_saes_decrypt_is_decrypt κs a r s p = p

-- ---- every key and every block

-- what `encrypt` gave last, `decrypt` under the same key turns into the block
pub saes_decrypt_undoes_encrypt : (κs : _) (a : _) (r : _) (s : _) → encrypt.Post κs a r s → a.1.0 < 65536
    → (κs' : _) (a' : _) (r' : _) (s' : _) → decrypt.Post κs' a' r' s' → a'.0 ≡ a.0 → a'.1.0 ≡ r.third → r'.third ≡ a.1.0
saes_decrypt_undoes_encrypt κs a r s p h κs' a' r' s' q same_key given =
    ap (λ (x : States). x.third) q
    ∙ ap₂ (λ (k b : ℕ). (decrypted k b).third) same_key (given ∙ ap (λ (x : States). x.third) p)
    ∙ decrypt_undoes_encrypt a.0 a.1.0 h

-- and the reverse
pub saes_encrypt_undoes_decrypt : (κs : _) (a : _) (r : _) (s : _) → decrypt.Post κs a r s → a.1.0 < 65536
    → (κs' : _) (a' : _) (r' : _) (s' : _) → encrypt.Post κs' a' r' s' → a'.0 ≡ a.0 → a'.1.0 ≡ r.third → r'.third ≡ a.1.0
saes_encrypt_undoes_decrypt κs a r s p h κs' a' r' s' q same_key given =
    ap (λ (x : States). x.third) q
    ∙ ap₂ (λ (k b : ℕ). (encrypted k b).third) same_key (given ∙ ap (λ (x : States). x.third) p)
    ∙ encrypt_undoes_decrypt a.0 a.1.0 h

-- ---- the hand cases of request E5 (docs/REQUIREMENTS.md), as one table with one claim about all of its rows

-- what a definition gives, and what document 02 or source document 001 has
pub record Case : Type 0 where
  pub given : List ℕ
  pub wanted : List ℕ

abbrev gives : List ℕ → List ℕ → Case
gives x y = record { given = x; wanted = y }

abbrev shown : States → List ℕ
shown s = s.first ∷ s.second ∷ s.third ∷ []

pub hand_cases : List Case
hand_cases =
    gives (number_of (key0 0x1f56) ∷ number_of (key1 0x1f56) ∷ number_of (key2 0x1f56) ∷ []) (0x1f56 ∷ 0x1e48 ∷ 0x430b ∷ [])
    ∷ gives (shown (encrypted 0x1f56 0x2726)) (0x3870 ∷ 0x8da9 ∷ 0x2105 ∷ [])
    ∷ gives (shown (decrypted 0x1f56 0x2105)) (0x620e ∷ 0x93e1 ∷ 0x2726 ∷ [])
    ∷ gives (shown (encrypted 0x4af5 0xd728)) (0x9ddd ∷ 0x2b1b ∷ 0x24ec ∷ [])
    ∷ []

pub apprentice_cases_hold : map (λ (c : Case). c.given) hand_cases ≡ map (λ (c : Case). c.wanted) hand_cases
unfolding hand_cases xor ◌•₄◌ with_digit x_times
apprentice_cases_hold = refl

-- ---- the worked example of docs/APPRENTICE.md, in the order of its steps: the gate compares the page with this list

abbrev byte : Word → ℕ
byte w = number_of (state (word 0 0) w)

module _ (key block : ℕ) where
  w1 : Word
  w1 = (key0 key).right

  w3 : Word
  w3 = (key1 key).right

  a : State
  a = add_round_key (key0 key) (state_of block)

  b : State
  b = round true (key1 key) a

  -- back: what the two rounds of decryption begin with
  c : State
  c = add_round_key (key2 key) (state_of (encrypted key block).third)

  d : State
  d = add_round_key (key1 key) (inv_sub_nibbles (shift_rows c))

  pub worked : List ℕ
  worked =
      byte (rot_nib w1) ∷ byte (sub_nib (rot_nib w1)) ∷ byte (g (word 0x8 0x0) w1) ∷ byte (key1 key).left ∷ byte (key1 key).right
      ∷ byte (rot_nib w3) ∷ byte (sub_nib (rot_nib w3)) ∷ byte (g (word 0x3 0x0) w3) ∷ byte (key2 key).left ∷ byte (key2 key).right
      ∷ number_of a
      ∷ number_of (sub_nibbles a) ∷ number_of (shift_rows (sub_nibbles a)) ∷ number_of (mix_columns 1 4 (shift_rows (sub_nibbles a))) ∷ number_of b
      ∷ number_of (sub_nibbles b) ∷ number_of (shift_rows (sub_nibbles b)) ∷ (encrypted key block).third
      ∷ number_of c
      ∷ number_of (shift_rows c) ∷ number_of (inv_sub_nibbles (shift_rows c)) ∷ number_of d
      ∷ number_of (mix_columns 9 2 d) ∷ number_of (shift_rows (mix_columns 9 2 d)) ∷ number_of (inv_sub_nibbles (shift_rows (mix_columns 9 2 d))) ∷ (decrypted key (encrypted key block).third).third
      ∷ []

pub worked_example : worked 0x1f56 0x2726 ≡
    0x65 ∷ 0x81 ∷ 0x01 ∷ 0x1e ∷ 0x48
    ∷ 0x84 ∷ 0x6d ∷ 0x5d ∷ 0x43 ∷ 0x0b
    ∷ 0x3870
    ∷ 0xb659 ∷ 0xb956 ∷ 0x93e1 ∷ 0x8da9
    ∷ 0x6e02 ∷ 0x620e ∷ 0x2105
    ∷ 0x620e
    ∷ 0x6e02 ∷ 0x8da9 ∷ 0x93e1
    ∷ 0xb956 ∷ 0xb659 ∷ 0x3870 ∷ 0x2726
    ∷ []
unfolding worked w1 w3 a b c d xor ◌•₄◌ with_digit x_times
worked_example = refl

-- the rows of its table of nibbles: the S-box, its inverse, and the products with 2, 4 and 9
pub rows : List (List ℕ)
rows = tabulate 16 s_box ∷ tabulate 16 inv_s_box ∷ tabulate 16 (2 •₄◌) ∷ tabulate 16 (4 •₄◌) ∷ tabulate 16 (9 •₄◌) ∷ []

pub worked_rows : rows ≡
    (0x9 ∷ 0x4 ∷ 0xa ∷ 0xb ∷ 0xd ∷ 0x1 ∷ 0x8 ∷ 0x5 ∷ 0x6 ∷ 0x2 ∷ 0x0 ∷ 0x3 ∷ 0xc ∷ 0xe ∷ 0xf ∷ 0x7 ∷ [])
    ∷ (0xa ∷ 0x5 ∷ 0x9 ∷ 0xb ∷ 0x1 ∷ 0x7 ∷ 0x8 ∷ 0xf ∷ 0x6 ∷ 0x0 ∷ 0x2 ∷ 0x3 ∷ 0xc ∷ 0x4 ∷ 0xd ∷ 0xe ∷ [])
    ∷ (0x0 ∷ 0x2 ∷ 0x4 ∷ 0x6 ∷ 0x8 ∷ 0xa ∷ 0xc ∷ 0xe ∷ 0x3 ∷ 0x1 ∷ 0x7 ∷ 0x5 ∷ 0xb ∷ 0x9 ∷ 0xf ∷ 0xd ∷ [])
    ∷ (0x0 ∷ 0x4 ∷ 0x8 ∷ 0xc ∷ 0x3 ∷ 0x7 ∷ 0xb ∷ 0xf ∷ 0x6 ∷ 0x2 ∷ 0xe ∷ 0xa ∷ 0x5 ∷ 0x1 ∷ 0xd ∷ 0x9 ∷ [])
    ∷ (0x0 ∷ 0x9 ∷ 0x1 ∷ 0x8 ∷ 0x2 ∷ 0xb ∷ 0x3 ∷ 0xa ∷ 0x4 ∷ 0xd ∷ 0x5 ∷ 0xc ∷ 0x6 ∷ 0xf ∷ 0x7 ∷ 0xe ∷ [])
    ∷ []
unfolding rows xor ◌•₄◌ with_digit x_times
worked_rows = refl

-- ---- the rules that the definitions' numbers are held to, at every nibble: each is a law of saes_spec

pub nibbles_modulo_x4_x_1 : (x : ℕ) → x < 16 → x_times x ≡ cond (ltb (x * 2) 16) (x * 2) (xor (x * 2) 0x13)
nibbles_modulo_x4_x_1 = pins.doubled_and_reduced

pub product_of_nibbles : ((x : ℕ) → x < 16 → x •₄ 1 ≡ x)
    × ((x y : ℕ) → x < 16 → y < 16 → x •₄ x_times y ≡ x_times (x •₄ y))
    × ((x y z : ℕ) → x < 16 → y < 16 → z < 16 → x •₄ xor y z ≡ xor (x •₄ y) (x •₄ z))
product_of_nibbles = (pins.product_with_one, pins.product_with_double, pins.product_with_sum)

pub s_box_by_its_rule : (x : ℕ) → x < 16 → s_box x ≡ s_rule x
s_box_by_its_rule = pins.s-rule

pub inverse_s_box_by_its_rule : (x : ℕ) → x < 16 → inv_s_box x ≡ inv_s_rule x
inverse_s_box_by_its_rule = pins.inv-s-rule

pub inverse_of_a_nibble : (x : ℕ) → x < 16 → x •₄ inverse x ≡ cond (eqb x 0) 0 1
inverse_of_a_nibble = pins.inverse_rule

pub key_constants_are_powers : (power 3 2 ≡ 0x8) × (power 4 2 ≡ 0x3)
key_constants_are_powers = pins.constants_are_powers
