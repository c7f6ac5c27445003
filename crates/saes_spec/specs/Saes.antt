-- Simplified AES in the order of steps of source document 001, section 1, over four nibbles. Assumes nothing: these are definitions.
use Rattle.std.specs.Prelude.{ℕ, ◌+◌, ◌*◌, ◌/◌, ◌%◌, Bool, true, false, cond}
use Rattle.octets.specs.Octets.{xor}
use Rattle.saes_spec.specs.Nibbles.{◌•₄◌}
use Rattle.saes_spec.specs.Sbox.{s_box, inv_s_box}
use Rattle.saes_spec.specs.declared.Word.{Word}
use Rattle.saes_spec.specs.declared.State.{State}
use Rattle.saes_spec.specs.declared.States.{States}

-- ---- words and states (tables 2 to 4)

-- two nibbles, as 80 hex is 8 and 0
abbrev pub word : (high low : ℕ) → Word
word a b = record { high = a; low = b }

-- two columns
abbrev pub state : (left right : Word) → State
state w v = record { left = w; right = v }

infixl 60 ◌⊕◌
-- the sum of two words, nibble by nibble
abbrev pub ◌⊕◌ : Word → Word → Word
w ⊕ v = word (xor w.high v.high) (xor w.low v.low)

-- 16 bits are four nibbles, the highest first, and column by column
abbrev pub state_of : ℕ → State
state_of n = state (word (n / 4096 % 16) (n / 256 % 16)) (word (n / 16 % 16) (n % 16))

abbrev pub number_of : State → ℕ
number_of s = s.left.high % 16 * 4096 + s.left.low % 16 * 256 + s.right.high % 16 * 16 + s.right.low % 16

-- ---- key expansion (1.1)

-- RotNib: the nibbles exchanged
abbrev pub rot_nib : Word → Word
rot_nib w = word w.low w.high

-- SubNib: each through the S-box
abbrev pub sub_nib : Word → Word
sub_nib w = word (s_box w.high) (s_box w.low)

-- g, with its Rcon
abbrev pub g : (rcon : Word) → Word → Word
g rcon w = rcon ⊕ sub_nib (rot_nib w)

-- the next two words: w2 = w0 + g(w1) and w3 = w2 + w1
abbrev pub next_key : (rcon : Word) → State → State
next_key rcon k = state (k.left ⊕ g rcon k.right) (k.left ⊕ g rcon k.right ⊕ k.right)

-- the round keys: w0 and w1, which are the key, w2 and w3 with Rcon(1) = 80, w4 and w5 with Rcon(2) = 30
abbrev pub key0 : ℕ → State
key0 key = state_of key

abbrev pub key1 : ℕ → State
key1 key = next_key (word 0x8 0x0) (key0 key)

abbrev pub key2 : ℕ → State
key2 key = next_key (word 0x3 0x0) (key1 key)

-- ---- encryption (1.2)

-- tables 6, 10 and 13
abbrev pub add_round_key : (k s : State) → State
add_round_key k s = state (s.left ⊕ k.left) (s.right ⊕ k.right)

-- tables 7 and 11
abbrev pub sub_nibbles : State → State
sub_nibbles s = state (sub_nib s.left) (sub_nib s.right)

-- tables 8 and 12: row 1 turned by one place of two
abbrev pub shift_rows : State → State
shift_rows s = state (word s.left.high s.right.low) (word s.right.high s.left.low)

-- 1.2.2.3: the matrix p q / q p times a column
abbrev pub mix_column : (p q : ℕ) → Word → Word
mix_column p q w = word (xor (p •₄ w.high) (q •₄ w.low)) (xor (q •₄ w.high) (p •₄ w.low))

-- table 9, and table 18 with the inverse matrix
abbrev pub mix_columns : (p q : ℕ) → State → State
mix_columns p q s = state (mix_column p q s.left) (mix_column p q s.right)

-- a round, with mixing by 1 4 / 4 1 or without (1.2.2, 1.2.3)
abbrev pub round : (mixing : Bool) → (k s : State) → State
round mixing k s = add_round_key k (cond mixing (mix_columns 1 4 (shift_rows (sub_nibbles s))) (shift_rows (sub_nibbles s)))

-- three states as numbers
abbrev pub states : (a b c : State) → States
states a b c = record { first = number_of a; second = number_of b; third = number_of c }

-- the state after each key addition; the second round is not mixed
abbrev pub encrypted : (key block : ℕ) → States
encrypted key block =
    let a = add_round_key (key0 key) (state_of block) in
    let b = round true (key1 key) a in
    states a b (round false (key2 key) b)

-- ---- decryption (1.3)

-- tables 16 and 20: each through the inverse S-box
abbrev pub inv_sub_nib : Word → Word
inv_sub_nib w = word (inv_s_box w.high) (inv_s_box w.low)

abbrev pub inv_sub_nibbles : State → State
inv_sub_nibbles s = state (inv_sub_nib s.left) (inv_sub_nib s.right)

-- unmixed by 9 2 / 2 9 or not; then up to the key addition. A row of two is turned back as it was turned, so by `shift_rows` (table 15)
abbrev pub inv_round : (mixing : Bool) → (k s : State) → State
inv_round mixing k s = add_round_key k (inv_sub_nibbles (shift_rows (cond mixing (mix_columns 9 2 s) s)))

-- the state after each key addition of decryption; the first round begins without unmixing
abbrev pub decrypted : (key block : ℕ) → States
decrypted key block =
    let a = add_round_key (key2 key) (state_of block) in
    let b = inv_round false (key1 key) a in
    states a b (inv_round true (key0 key) b)
