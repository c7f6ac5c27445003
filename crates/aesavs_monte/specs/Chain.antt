-- The Monte Carlo tests of AESAVS, 6.4.1 for ECB and 6.4.2 for CBC. Encrypting, text j is PT[j] and output j is CT[j]; decrypting, the
-- names are exchanged. Assumes nothing: these are definitions.
use Rattle.std.specs.Prelude.{ℕ, zero, suc, ◌-◌, Bool, true, false, cond, List, ◌++◌, length, take, drop, replicate}
use Rattle.octets.specs.Octets.{over}
use Rattle.octets.specs.Blocks.{◌⊕◌}
use Rattle.octets_slice.specs.Slices.{copied}
use Rattle.octets_block.specs.Blocks.{block_at}
use Rattle.aes_spec.specs.Cipher.{aes_of}
use Rattle.modes_spec.specs.Pieces.{Machine}
use Rattle.modes_spec.specs.Modes.{machine}
use Rattle.modes_spec.specs.declared.Operation.{Operation}
use Rattle.modes_spec.specs.declared.Operation.TheVariants.{EcbEncrypt, EcbDecrypt, CbcEncrypt, CbcDecrypt}
use Rattle.aesavs_line.specs.declared.Way.{Way}
use Rattle.aesavs_line.specs.declared.Way.TheVariants.{Encrypting, Decrypting}
use Rattle.aesavs_monte.specs.declared.Turn.{Turn}
use Rattle.aesavs_monte.specs.declared.Link.{Link}
use Rattle.aesavs_monte.specs.declared.Ran.{Ran}

-- a record with an IV is CBC, one without is ECB
abbrev pub encryption : Bool → Operation
encryption true = CbcEncrypt
encryption false = EcbEncrypt

abbrev pub decryption : Bool → Operation
decryption true = CbcDecrypt
decryption false = EcbDecrypt

abbrev pub operation_of : Way → Bool → Operation
operation_of Encrypting chained = encryption chained
operation_of Decrypting chained = decryption chained

-- one step: output j of text j; text j + 1 is output j in ECB, and output j - 1 in CBC, where the IV stands for output -1
abbrev pub turn_of : Machine → Bool → Turn → Turn
turn_of m chained t = record {
  chain = m.next t.chain t.text;
  before = t.last;
  last = m.out t.chain t.text;
  text = cond chained t.last (m.out t.chain t.text);
}

-- before the first step
abbrev pub begun : List ℕ → List ℕ → Turn
begun iv text = record { chain = iv; before = iv; last = iv; text = text }

unfoldable pub iterate : ℕ → (Turn → Turn) → Turn → Turn
iterate zero f t = t
iterate (suc n) f t = f (iterate n f t)

-- the turns of a record after n steps
unfoldable pub turns : Way → Bool → (key iv text : List ℕ) → ℕ → Turn
turns w chained key iv text n = iterate n (turn_of (machine (aes_of key) (operation_of w chained)) chained) (begun iv text)

-- text j and output j, from 0
unfoldable pub text_at : Way → Bool → (key iv text : List ℕ) → ℕ → List ℕ
text_at w chained key iv text j = (turns w chained key iv text j).text

unfoldable pub output_at : Way → Bool → (key iv text : List ℕ) → ℕ → List ℕ
output_at w chained key iv text j = (turns w chained key iv text (suc j)).last

-- the next key: as many bytes as the key has, the last ones of output 998 joined to output 999, are added to it
unfoldable pub next_key : (key before last : List ℕ) → List ℕ
next_key key before last = key ⊕ drop (32 - length key) (before ++ last)

-- the next record starts from output 999 in ECB; in CBC output 999 is its IV and output 998 its text
unfoldable pub next_link : Bool → Link → Turn → Link
next_link chained l t = record {
  key = over (next_key (take l.size l.key) t.before t.last) l.key;
  size = l.size;
  iv = cond chained t.last l.iv;
  text = cond chained t.before t.last;
}

-- what is computed of a record: a thousand steps, of which the last output is the record's
unfoldable pub ended : Way → Bool → Link → Turn
ended w chained l = turns w chained (take l.size l.key) l.iv l.text 1000

unfoldable pub ran_of : Way → Bool → Link → Ran
ran_of w chained l = record { output = (ended w chained l).last; next = next_link chained l (ended w chained l) }

-- what the record n of a chain starts from, of which the first starts from l
unfoldable pub link_at : Way → Bool → Link → ℕ → Link
link_at w chained l zero = l
link_at w chained l (suc n) = (ran_of w chained (link_at w chained l n)).next

-- the fields of a record, as they are held
unfoldable pub link_of : (key iv text : List ℕ) → Link
link_of key iv text = record { key = copied key 0 (replicate 32 0); size = length key; iv = block_at iv 0; text = block_at text 0 }
