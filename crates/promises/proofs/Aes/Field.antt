-- Request E3: the product of every pair of bytes by the tables L and E, and what the lookups in them give. Assumes nothing.
use mathlib.Core.Path.{◌≡◌, sym, ◌∙◌}
use Prim.Native.Nat.{ℕ, ◌<◌}
use Rattle.field.specs.Field.{◌•◌}
use Rattle.field.specs.Logarithms.{E, L, looked_up}
use Rattle.field.proofs.Logarithms.{E-rule, E-of-L, L-rule, L-of-E, L-0, L-1, product_looked_up}
use Rattle.field.proofs.product.Reads as product
use Rattle.field_log.proofs.logarithm.Reads as logarithm
use Rattle.field_exp.proofs.power.Reads as power

-- ---- the tables: E is the powers of 03, and L undoes it

pub E-undoes-L : (a : ℕ) → a < 256 → (a ≡ 0 → ⊥) → E (L a) ≡ a
E-undoes-L = E-of-L

pub L-undoes-E : (n : ℕ) → n < 255 → L (E n) ≡ n
L-undoes-E = L-of-E

pub L-of-0-and-1 : (L 0 ≡ 0) × (L 1 ≡ 0)
L-of-0-and-1 = (L-0, L-1)

pub logarithm_is_l : (κs : _) (a : _) (r : _) (s : _) → logarithm.Post κs a r s → a.0 < 256 → r ≡ L a.0
logarithm_is_l κs a r s p h = p ∙ L-rule a.0 h

pub power_is_e : (κs : _) (a : _) (r : _) (s : _) → power.Post κs a r s → a.0 < 256 → r ≡ E a.0
power_is_e κs a r s p h = p ∙ E-rule a.0 h

-- ---- the product: by the request's rule it is what it was

pub the_rule_of_products : (a b : ℕ) → a < 256 → b < 256 → looked_up a b ≡ a • b
the_rule_of_products a b ha hb = sym (product_looked_up a b ha hb)

pub product_is_looked_up : (κs : _) (a : _) (r : _) (s : _) → product.Post κs a r s → a.0 < 256 → a.1.0 < 256 → r ≡ looked_up a.0 a.1.0
product_is_looked_up κs a r s p ha hb = p ∙ product_looked_up a.0 a.1.0 ha hb
