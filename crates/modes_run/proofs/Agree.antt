-- A run over a cipher that agrees with AES is the operation over AES. Assumes nothing.
use mathlib.Core.Path.{◌≡◌, refl, sym, ap, ap₂, ◌∙◌}
use mathlib.Core.Bool.{Bool, true, false, true≢false, cond}
use mathlib.Core.List.{List, [], ◌++◌, append-nil}
use Prim.Native.Nat.{ℕ, zero, suc, ◌*◌, ◌/◌, ◌%◌, ◌≤◌, min}
use native.Mathlib.Nat.{zero-lt-suc}
use native.Mathlib.Omega.{arith}
use lib.ListN.{length, take, drop, replicate, drop_of_length-le}
use lib.Seq.{take_all}
use Rattle.octets.specs.Octets.{Bytes, over}
use Rattle.octets.specs.Blocks.{BlockCipher, Lawful}
use Rattle.octets_block.specs.Blocks.{block_at}
use Rattle.octets_block.proofs.Laws.{block-at, block_octets}
use Rattle.aes_spec.specs.Model.{equivalent_cipher, one_way}
use Rattle.aes_spec.proofs.Equivalent.{Agree}
use Rattle.modes_spec.specs.Pieces.{output_of, after}
use Rattle.modes_spec.specs.Modes.{machine, inverts, iv_length, any_length, chains, Unless, moded, handed_on}
use Rattle.modes_spec.specs.declared.Operation.{Operation}
use Rattle.modes_spec.specs.declared.Operation.TheVariants.{EcbEncrypt, EcbDecrypt, CbcEncrypt, CbcDecrypt, CfbEncrypt, CfbDecrypt, Ofb}
use Rattle.modes_spec.proofs.Undo.{ChainOf}
use Rattle.modes_spec.proofs.Sixteen.{pieces_16, length_16}
use Rattle.modes_spec.proofs.Same.{moded_same, handed_same}
use Rattle.modes_run.specs.Model.{reach, run_over}

-- an operation uses the cipher one way only, so the schedule of that way serves
forward_only : (w v : List ℕ) (nr : ℕ) (o : Operation) → inverts o ≡ false → machine (one_way w nr) o ≡ machine (equivalent_cipher w v nr) o
forward_only w v nr EcbEncrypt e = refl
forward_only w v nr EcbDecrypt e = absurd (true≢false e)
forward_only w v nr CbcEncrypt e = refl
forward_only w v nr CbcDecrypt e = absurd (true≢false e)
forward_only w v nr CfbEncrypt e = refl
forward_only w v nr CfbDecrypt e = refl
forward_only w v nr Ofb e = refl

backward_only : (w v : List ℕ) (nr : ℕ) (o : Operation) → inverts o ≡ true → machine (one_way v nr) o ≡ machine (equivalent_cipher w v nr) o
backward_only w v nr EcbEncrypt e = absurd (true≢false (sym e))
backward_only w v nr EcbDecrypt e = refl
backward_only w v nr CbcEncrypt e = absurd (true≢false (sym e))
backward_only w v nr CbcDecrypt e = refl
backward_only w v nr CfbEncrypt e = absurd (true≢false (sym e))
backward_only w v nr CfbDecrypt e = absurd (true≢false (sym e))
backward_only w v nr Ofb e = absurd (true≢false (sym e))

module _ (w v : List ℕ) (nr : ℕ) (o : Operation) (iv inp out : List ℕ) where
  pub through_forward : inverts o ≡ false → run_over (one_way w nr) o iv inp out ≡ run_over (equivalent_cipher w v nr) o iv inp out
  unfolding run_over
  through_forward e = rw (forward_only w v nr o e)

  pub through_backward : inverts o ≡ true → run_over (one_way v nr) o iv inp out ≡ run_over (equivalent_cipher w v nr) o iv inp out
  unfolding run_over
  through_backward e = rw (backward_only w v nr o e)

-- any length goes in OFB alone
pub any_length_ofb : (o : Operation) → any_length o ≡ true → o ≡ Ofb
any_length_ofb EcbEncrypt e = absurd (true≢false (sym e))
any_length_ofb EcbDecrypt e = absurd (true≢false (sym e))
any_length_ofb CbcEncrypt e = absurd (true≢false (sym e))
any_length_ofb CbcDecrypt e = absurd (true≢false (sym e))
any_length_ofb CfbEncrypt e = absurd (true≢false (sym e))
any_length_ofb CfbDecrypt e = absurd (true≢false (sym e))
any_length_ofb Ofb e = refl

-- ---- the IV

-- ECB has no chaining value, so any serves
ecb_any : (c : BlockCipher) (o : Operation) → ((st p : List ℕ) → (machine c o).next st p ≡ st) → ((st st' p : List ℕ) → (machine c o).out st p ≡ (machine c o).out st' p)
    → (st st' : List ℕ) (n : ℕ) (s : List ℕ) → output_of 16 (machine c o) st n s ≡ output_of 16 (machine c o) st' n s
unfolding output_of
ecb_any c o x y st st' zero s = refl
ecb_any c o x y st st' (suc n) s =
    ap₂ ◌++◌ (y st st' (take 16 s))
    (ap (λ (t : List ℕ). output_of 16 (machine c o) t n (drop 16 s)) (x st (take 16 s)) ∙ ecb_any c o x y st st' n (drop 16 s)
    ∙ ap (λ (t : List ℕ). output_of 16 (machine c o) t n (drop 16 s)) (sym (x st' (take 16 s))))

-- and it hands on the one that it was given
ecb_after : (c : BlockCipher) (o : Operation) → ((st p : List ℕ) → (machine c o).next st p ≡ st) → (st : List ℕ) (n : ℕ) (s : List ℕ) → after 16 (machine c o) st n s ≡ st
unfolding after
ecb_after c o x st zero s = refl
ecb_after c o x st (suc n) s = ecb_after c o x ((machine c o).next st (take 16 s)) n (drop 16 s) ∙ x st (take 16 s)

-- an IV of no bytes, loaded as a block, and one of 16 bytes
none_loaded : (iv : List ℕ) → length iv ≡ 0 → block_at iv 0 ≡ replicate 16 0
unfolding block_at
none_loaded iv e = rw e

loaded : (iv : List ℕ) → length iv ≡ 16 → block_at iv 0 ≡ iv
loaded iv e = block-at iv 0 (omega arith) ∙ take_all 16 iv (omega arith)

pub iv_chain : (o : Operation) (iv : List ℕ) → length iv ≡ iv_length 16 o → Bytes iv → ChainOf 16 o (block_at iv 0)
iv_chain EcbEncrypt iv e b = tt
iv_chain EcbDecrypt iv e b = tt
iv_chain CbcEncrypt iv e b = block_octets iv 0 (omega arith) b
iv_chain CbcDecrypt iv e b = block_octets iv 0 (omega arith) b
iv_chain CfbEncrypt iv e b = block_octets iv 0 (omega arith) b
iv_chain CfbDecrypt iv e b = block_octets iv 0 (omega arith) b
iv_chain Ofb iv e b = block_octets iv 0 (omega arith) b

pub iv_is_chain : (o : Operation) (iv : List ℕ) → length iv ≡ iv_length 16 o → Bytes iv → ChainOf 16 o iv
iv_is_chain EcbEncrypt iv e b = tt
iv_is_chain EcbDecrypt iv e b = tt
iv_is_chain CbcEncrypt iv e b = record { size = e; bytes = b }
iv_is_chain CbcDecrypt iv e b = record { size = e; bytes = b }
iv_is_chain CfbEncrypt iv e b = record { size = e; bytes = b }
iv_is_chain CfbDecrypt iv e b = record { size = e; bytes = b }
iv_is_chain Ofb iv e b = record { size = e; bytes = b }

module _ (c : BlockCipher) (iv : List ℕ) (n : ℕ) (s : List ℕ) where
  block_iv : (o : Operation) → length iv ≡ 16 → output_of 16 (machine c o) (block_at iv 0) n s ≡ output_of 16 (machine c o) iv n s
  block_iv o e = ap (λ (x : List ℕ). output_of 16 (machine c o) x n s) (loaded iv e)

  pub iv_same : (o : Operation) → length iv ≡ iv_length 16 o → output_of 16 (machine c o) (block_at iv 0) n s ≡ output_of 16 (machine c o) iv n s
  iv_same EcbEncrypt e = ecb_any c EcbEncrypt (λ st p. refl) (λ st st' p. refl) (block_at iv 0) iv n s
  iv_same EcbDecrypt e = ecb_any c EcbDecrypt (λ st p. refl) (λ st st' p. refl) (block_at iv 0) iv n s
  iv_same CbcEncrypt e = block_iv CbcEncrypt e
  iv_same CbcDecrypt e = block_iv CbcDecrypt e
  iv_same CfbEncrypt e = block_iv CfbEncrypt e
  iv_same CfbDecrypt e = block_iv CfbDecrypt e
  iv_same Ofb e = block_iv Ofb e

  handed_chain : (o : Operation) → length iv ≡ 16 → after 16 (machine c o) (block_at iv 0) n s ≡ after 16 (machine c o) iv n s
  handed_chain o e = ap (λ (x : List ℕ). after 16 (machine c o) x n s) (loaded iv e)

  -- what is handed on from the IV as it was loaded: zeros in ECB
  pub handed_iv : (o : Operation) → length iv ≡ iv_length 16 o → after 16 (machine c o) (block_at iv 0) n s ≡ cond (chains o) (after 16 (machine c o) iv n s) (replicate 16 0)
  handed_iv EcbEncrypt e = ecb_after c EcbEncrypt (λ st p. refl) (block_at iv 0) n s ∙ none_loaded iv e
  handed_iv EcbDecrypt e = ecb_after c EcbDecrypt (λ st p. refl) (block_at iv 0) n s ∙ none_loaded iv e
  handed_iv CbcEncrypt e = handed_chain CbcEncrypt e
  handed_iv CbcDecrypt e = handed_chain CbcDecrypt e
  handed_iv CfbEncrypt e = handed_chain CfbEncrypt e
  handed_iv CfbDecrypt e = handed_chain CfbDecrypt e
  handed_iv Ofb e = handed_chain Ofb e

-- ---- an input that a run takes whole

-- as long as the output at most, and whole pieces where any length does not go
all_taken : (k : Bool) (a b : ℕ) → Unless k (a % 16 ≡ 0) → a ≤ b → cond k (min a b) (min a b / 16 * 16) ≡ a
all_taken true a b h l = omega arith
all_taken false a b h l = omega arith

taken_all : (o : Operation) (inp out : List ℕ) → Unless (any_length o) (length inp % 16 ≡ 0) → length inp ≤ length out → take (reach o (length inp) (length out)) inp ≡ inp
unfolding reach
taken_all o inp out h l = ap (λ (n : ℕ). take n inp) (all_taken (any_length o) (length inp) (length out) h l) ∙ take_all (length inp) inp (omega arith)

whole_always : (k : Bool) (n : ℕ) → n % 16 ≡ 0 → Unless k (n % 16 ≡ 0)
whole_always true n h = tt
whole_always false n h = h

-- a run whose input and output are as long, and whole pieces: the operation, whatever the cipher
pub through_whole : (c : BlockCipher) (o : Operation) (iv inp out : List ℕ) → length inp % 16 ≡ 0 → length inp ≡ length out
    → run_over c o iv inp out ≡ (handed_on 16 c o iv inp, moded 16 c o iv inp)
unfolding run_over
through_whole c o iv inp out h e =
    let z : drop (length inp) out ≡ [] = drop_of_length-le out {i = length inp} (omega arith) in
    rw (taken_all o inp out (whole_always (any_length o) (length inp) h) (omega arith), z, append-nil (moded 16 c o iv inp))

module _ (c d : BlockCipher) (a : Agree c d) (l : Lawful 16 d) (o : Operation) (st inp : List ℕ) (g : ChainOf 16 o st) (b : Bytes inp)
    (h : Unless (any_length o) (length inp % 16 ≡ 0)) where
  -- a run over one cipher is the operation over the other, over the front of the output
  pub through_mode : (out : List ℕ) → length inp ≤ length out
      → run_over c o st inp out ≡ (handed_on 16 d o st inp, over (moded 16 d o st inp) out)
  unfolding run_over
  through_mode out r =
      let some = zero-lt-suc 15 in
      let w = pieces_16 (any_length o) (length inp) h in
      rw (taken_all o inp out h r, handed_same 16 c d a.enc_same a.dec_same l o (length inp / 16) st inp some g b w, moded_same 16 c d a.enc_same a.dec_same l o (length inp / 16) st inp some g b w, length_16 d l o st inp g b h)
