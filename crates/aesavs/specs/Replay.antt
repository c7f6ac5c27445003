-- A record replayed: which of its fields differs first from what is computed (docs/REPLAY.md). Assumes nothing: these are definitions.
use Rattle.std.specs.Prelude.{ℕ, Bool, ◌||◌, not, cond, Option, Some, None, List, eqb, length, take}
use Rattle.octets.specs.Octets.{same}
use Rattle.modes_answer.specs.Answers.{mode_number}
use Rattle.modes.specs.Calls.{mode_answer, mode_output}
use Rattle.aesavs_line.specs.declared.Way.{Way}
use Rattle.aesavs_line.specs.declared.Way.TheVariants.{Encrypting, Decrypting}
use Rattle.aesavs_line.specs.declared.Field.{Field}
use Rattle.aesavs_line.specs.declared.Field.TheVariants.{Key, Iv, Plaintext, Ciphertext}
use Rattle.aesavs_monte.specs.Chain.{operation_of, ran_of}
use Rattle.aesavs_monte.specs.declared.Link.{Link}
use Rattle.aesavs.specs.declared.Replayed.{Replayed}

-- encrypting, the plaintext is given and the ciphertext computed; decrypting, the other way round
abbrev pub first_field : Way → Field
first_field Encrypting = Plaintext
first_field Decrypting = Ciphertext

abbrev pub second_field : Way → Field
second_field Encrypting = Ciphertext
second_field Decrypting = Plaintext

-- the second text compared with the output
unfoldable pub second_verdict : Way → (output second : List ℕ) → Option Field
second_verdict w output second = cond (same output second) None (Some (second_field w))

-- ---- known answers

-- what the mode makes of the first text, over the front of the output
unfoldable pub computed : Way → Bool → (key iv first out : List ℕ) → List ℕ
computed w chained key iv first out = mode_output (mode_answer (operation_of w chained) key iv first out) (operation_of w chained) key iv first out

-- only the second text is compared; if the mode refuses, nothing is computed
unfoldable pub known_answer : Way → Bool → (key iv first second out : List ℕ) → Option Field
known_answer w chained key iv first second out =
    cond (eqb (mode_number (mode_answer (operation_of w chained) key iv first out)) 0)
    (second_verdict w (take (length first) (computed w chained key iv first out)) second)
    (Some (second_field w))

-- ---- Monte Carlo

-- the bytes of a link's key
abbrev pub key_of : Link → List ℕ
key_of l = take l.size l.key

-- what a record must start from compared with what it has: KEY, IV, first text, in this order
unfoldable pub start_verdict : Way → Bool → (own given : Link) → Option Field
start_verdict w chained own given =
    cond (same (key_of own) (key_of given))
    (cond (not chained || same own.iv given.iv)
    (cond (same own.text given.text) None (Some (first_field w)))
    (Some Iv))
    (Some Key)

-- the field that differs first
abbrev pub earlier : Option Field → Option Field → Option Field
earlier None v = v
earlier (Some f) v = Some f

-- a record from a link on; the next starts from what is computed here, whatever the record says
unfoldable pub from_link : Way → Bool → Option Field → Link → List ℕ → Replayed
from_link w chained found l second = record {
  verdict = earlier found (second_verdict w (ran_of w chained l).output second);
  next = (ran_of w chained l).next;
}

-- the first record of a section starts the chain: only its second text is compared
unfoldable pub monte_carlo : Way → Bool → (fresh : Bool) → (own given : Link) → List ℕ → Replayed
monte_carlo w chained fresh own given second = cond fresh (from_link w chained None given second) (from_link w chained (start_verdict w chained own given) own second)
