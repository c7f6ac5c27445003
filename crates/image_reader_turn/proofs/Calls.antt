-- A turn's own tests, and where none of them refuses. Assumes nothing.
use mathlib.Core.Path.{◌≡◌, ◌∙◌}
use mathlib.Core.Bool.{true, false, ◌&&◌}
use mathlib.Core.List.{List}
use Prim.Native.Nat.{ℕ, ◌*◌, ◌%◌, ◌≤◌}
use borrow.Author.Tests.{leb-true}
use lib.Dec.{eqb, ltb, leb}
use lib.ListN.{length}
use Rattle.octets.proofs.Both.{and_true}
use Rattle.image_progress.specs.declared.Progress.{Progress}
use Rattle.image_spec.specs.Judge.{Keys, of_both}
use Rattle.image_reader_turn.specs.Turn.{cut, handled, whole, turn_under}
use Rattle.image_reader_turn.specs.Model.{read_into}
use Rattle.image_reader_tally.specs.declared.BlocksRead.{BlocksRead}
use Rattle.image_reader_tally.specs.declared.Stop.TheVariants.{Asked, Lent, Room}

module _ (n : Keys) (s : Progress) (given : List ℕ) (asked : ℕ) (out : List ℕ) where
  pub turn_asked : (ltb 0 asked && leb asked 128) ≡ false → (whole s Asked, out) ≡ turn_under n s given asked out
  unfolding turn_under
  turn_asked e = rw e

  module _ (e1 : (ltb 0 asked && leb asked 128) ≡ true) where
    pub turn_lent : eqb (length given % 512) 0 ≡ false → (whole s Lent, out) ≡ turn_under n s given asked out
    unfolding turn_under
    turn_lent e2 = rw (e1, e2)

    pub asked_most : asked ≤ 128
    asked_most = leb-true asked 128 (and_true (ltb 0 asked) (leb asked 128) e1).1

    module _ (e2 : eqb (length given % 512) 0 ≡ true) (k : ℕ) (ek : k ≡ handled given asked) where
      pub turn_room : ltb (length out) (k * 480) ≡ true → (whole s Room, out) ≡ turn_under n s given asked out
      unfolding turn_under
      turn_room e3 = let f : ltb (length out) (handled given asked * 480) ≡ true = rw (← ek) e3 in rw (e1, e2, f)

      pub turn_read : ltb (length out) (k * 480) ≡ false → (t : BlocksRead × List ℕ) → t ≡ read_into (of_both n) s (cut k given) out → t ≡ turn_under n s given asked out
      unfolding turn_under
      turn_read e3 t et =
          let f : ltb (length out) (handled given asked * 480) ≡ false = rw (← ek) e3 in
          et ∙ rw (e1, e2, f, ek)
