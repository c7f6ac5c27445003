-- Slices and blocks of bytes: every public call asks nothing of its caller, any two outcomes that its contract allows agree, and memory
-- that is lent to write stays as it was where there is no room. Assumes nothing.
use mathlib.Core.Path.{◌≡◌, sym, ◌∙◌}
use mathlib.Core.Bool.{false}
use lib.ListN.{length}
use Prim.Native.Nat.{◌+◌}
use lib.Dec.{leb}
use Rattle.octets_slice.specs.Slices.{copied}
use Rattle.octets_block.proofs.load.Reads as load
use Rattle.octets_slice.proofs.copy.Reads as copy
use Rattle.octets_slice.proofs.has_room.Reads as has_room
use Rattle.octets_block.proofs.store.Reads as store
use Rattle.octets_block.proofs.xor.Reads as xor
use Rattle.octets_slice.proofs.equal.Reads as equal
use Rattle.octets_slice.proofs.part.Reads as part

pub load_asks_nothing : (κs : _) (a : _) → load.Asked κs a
load_asks_nothing κs a = tt

pub load_determined : (κs : _) (a : _) (r r' : _) (s s' : _) → load.Post κs a r s → load.Post κs a r' s' → r ≡ r'
load_determined κs a r r' s s' p q = p ∙ sym q

pub xor_asks_nothing : (κs : _) (a : _) → xor.Asked κs a
xor_asks_nothing κs a = tt

pub xor_determined : (κs : _) (a : _) (r r' : _) (s s' : _) → xor.Post κs a r s → xor.Post κs a r' s' → r ≡ r'
xor_determined κs a r r' s s' p q = p ∙ sym q

pub has_room_asks_nothing : (κs : _) (a : _) → has_room.Asked κs a
has_room_asks_nothing κs a = tt

pub has_room_determined : (κs : _) (a : _) (r r' : _) (s s' : _) → has_room.Post κs a r s → has_room.Post κs a r' s' → r ≡ r'
has_room_determined κs a r r' s s' p q = p ∙ sym q

pub copy_asks_nothing : (κs : _) (a : _) → copy.Asked κs a
copy_asks_nothing κs a = tt

pub copy_determined : (κs : _) (a : _) (r r' : _) (s s' : _) → copy.Post κs a r s → copy.Post κs a r' s' → s.1.0.now ≡ s'.1.0.now
copy_determined κs a r r' s s' p q = p ∙ sym q

-- what does not fit is not written
pub copy_refused_keeps : (κs : _) (a : _) (r : _) (s : _) → copy.Post κs a r s → leb (a.1.1.0 + length a.0.now) (length a.1.0.now) ≡ false → s.1.0.now ≡ a.1.0.now
unfolding copied
copy_refused_keeps κs a r s p e = p ∙ rw e

pub store_asks_nothing : (κs : _) (a : _) → store.Asked κs a
store_asks_nothing κs a = tt

pub store_determined : (κs : _) (a : _) (r r' : _) (s s' : _) → store.Post κs a r s → store.Post κs a r' s' → s.0.now ≡ s'.0.now
store_determined κs a r r' s s' p q = p ∙ sym q

pub store_refused_keeps : (κs : _) (a : _) (r : _) (s : _) → store.Post κs a r s → leb (a.1.0 + length a.1.1.0) (length a.0.now) ≡ false → s.0.now ≡ a.0.now
unfolding copied
store_refused_keeps κs a r s p e = p ∙ rw e

pub part_asks_nothing : (κs : _) (a : _) → part.Asked κs a
part_asks_nothing κs a = tt

pub part_determined : (κs : _) (a : _) (r r' : _) (s s' : _) → part.Post κs a r s → part.Post κs a r' s' → r.now ≡ r'.now
part_determined κs a r r' s s' p q = p ∙ sym q

pub equal_asks_nothing : (κs : _) (a : _) → equal.Asked κs a
equal_asks_nothing κs a = tt

pub equal_determined : (κs : _) (a : _) (r r' : _) (s s' : _) → equal.Post κs a r s → equal.Post κs a r' s' → r ≡ r'
equal_determined κs a r r' s s' p q = p ∙ sym q
