-- Laws on text put into lent memory. Assumes nothing.
use Rattle.std.proofs.Common.{◌≡◌, ℕ, ◌+◌, ◌<◌, List, length, get_or, set, add-one}
use Rattle.std.proofs.Math.Seq.{paste, paste-suc}

-- one byte more of what is put
pub put_more : (d : List ℕ) (at : ℕ) (x : List ℕ) (i v : ℕ) → at + i < length d → i < length x → v ≡ get_or x i 0 → set (paste d at x i) (at + i) v ≡ paste d at x (i + 1)
put_more d at x i v hd hx e = rw (add-one, e) (paste-suc d at x i 0 hd hx)
