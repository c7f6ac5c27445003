-- What AESAVS says of the next record in a sentence, of the definitions. Assumes nothing.
use mathlib.Core.Path.{◌≡◌, refl, ap}
use mathlib.Core.Bool.{true, false}
use mathlib.Core.List.{List, ◌++◌}
use Prim.Native.Nat.{ℕ, suc}
use native.Mathlib.Omega.{arith}
use lib.ListN.{length, take, drop}
use lib.Seq.{drop_at, drop-append-le}
use Rattle.octets.specs.Octets.{over}
use Rattle.octets.specs.Blocks.{◌⊕◌}
use Rattle.aesavs_line.specs.declared.Way.{Way}
use Rattle.aesavs_monte.specs.Chain.{iterate, turns, output_at, next_key, next_link, ended, ran_of}
use Rattle.aesavs_monte.specs.declared.Link.{Link}

-- 128 bits: Key XOR CT[j]; 192: Key XOR (last 64 bits of CT[j-1] || CT[j]); 256: Key XOR (CT[j-1] || CT[j])
module _ (key before last : List ℕ) (e : length before ≡ 16) where
  pub next_key_128 : length key ≡ 16 → next_key key before last ≡ key ⊕ last
  unfolding next_key
  next_key_128 k = rw k (ap (key ⊕◌) (drop_at before last 16 e))

  pub next_key_192 : length key ≡ 24 → next_key key before last ≡ key ⊕ (drop 8 before ++ last)
  unfolding next_key
  next_key_192 k = rw k (ap (key ⊕◌) (drop-append-le 8 before last (omega (arith, e))))

  pub next_key_256 : length key ≡ 32 → next_key key before last ≡ key ⊕ (before ++ last)
  unfolding next_key
  next_key_256 k = rw k

-- the two last outputs of n + 2 steps
module _ (w : Way) (ch : _) (key iv text : List ℕ) (n : ℕ) where
  before_last : (turns w ch key iv text (suc n)).before ≡ (turns w ch key iv text n).last
  unfolding turns iterate
  before_last = refl

-- a record is output 999; the next key, IV and text are of outputs 998 and 999
module _ (w : Way) (l : Link) where
  pub a_record : (ch : _) → (ran_of w ch l).output ≡ output_at w ch (take l.size l.key) l.iv l.text 999
  unfolding ran_of ended output_at
  a_record ch = refl

  pub the_next_key : (ch : _) → (ran_of w ch l).next.key
      ≡ over (next_key (take l.size l.key) (output_at w ch (take l.size l.key) l.iv l.text 998) (output_at w ch (take l.size l.key) l.iv l.text 999)) l.key
  unfolding ran_of ended output_at next_link
  the_next_key ch = rw (before_last w ch (take l.size l.key) l.iv l.text 999)

  pub the_next_in_ecb : ((ran_of w false l).next.text ≡ output_at w false (take l.size l.key) l.iv l.text 999) × ((ran_of w false l).next.size ≡ l.size)
  unfolding ran_of ended output_at next_link
  the_next_in_ecb = (refl, refl)

  pub the_next_in_cbc : ((ran_of w true l).next.iv ≡ output_at w true (take l.size l.key) l.iv l.text 999)
      × ((ran_of w true l).next.text ≡ output_at w true (take l.size l.key) l.iv l.text 998) × ((ran_of w true l).next.size ≡ l.size)
  unfolding ran_of ended output_at next_link
  the_next_in_cbc = (refl, before_last w true (take l.size l.key) l.iv l.text 999, refl)
