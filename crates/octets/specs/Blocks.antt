-- Blocks of bytes: their sum, and a cipher on them, whatever it is. Assumes nothing: these are definitions.
use Rattle.std.specs.Prelude.{◌≡◌, List, [], ◌∷◌, ℕ}
use Rattle.octets.specs.Octets.{xor, Octets}

infixl 65 ◌⊕◌
-- byte by byte, as far as both go
abbrev pub ◌⊕◌ : List ℕ → List ℕ → List ℕ
[] ⊕ b = []
(x ∷ a) ⊕ [] = []
(x ∷ a) ⊕ (y ∷ b) = xor x y ∷ (a ⊕ b)

-- a function on blocks, and one that is to undo it
pub record BlockCipher : Type 0 where
  pub enc : List ℕ → List ℕ
  pub dec : List ℕ → List ℕ

-- blocks of n bytes go to blocks of n bytes, and each undoes the other
pub record Lawful (n : ℕ) (c : BlockCipher) : Type 0 where
  pub enc_block : (x : List ℕ) → Octets n x → Octets n (c.enc x)
  pub dec_block : (x : List ℕ) → Octets n x → Octets n (c.dec x)
  pub dec_enc : (x : List ℕ) → Octets n x → c.dec (c.enc x) ≡ x
  pub enc_dec : (x : List ℕ) → Octets n x → c.enc (c.dec x) ≡ x
