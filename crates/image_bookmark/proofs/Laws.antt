-- The bytes of a number of eight. Assumes nothing.
use mathlib.Core.Path.{◌≡◌}
use Prim.Native.Nat.{ℕ, ◌/◌, ◌%◌, ◌^◌, ◌<◌}
use native.Mathlib.Omega.{arith}
use Rattle.std.specs.Int.{w64, to_be_bytes}
use Rattle.octets.specs.Words.{bytes_of}
use Rattle.image_bookmark.specs.Bookmark.{long_bytes}

-- the bytes of a number of eight, the highest first
pub long_be : (n : ℕ) → n < 18446744073709551616 → to_be_bytes w64 n ≡ long_bytes n
unfolding bytes_of
long_be n h =
    let high : n / 4294967296 < 4294967296 = omega arith in
    let e7 : n / 256 ^ 7 % 256 ≡ n / 4294967296 / 16777216 % 256 = omega arith in
    let e6 : n / 256 ^ 6 % 256 ≡ n / 4294967296 / 65536 % 256 = omega arith in
    let e5 : n / 256 ^ 5 % 256 ≡ n / 4294967296 / 256 % 256 = omega arith in
    let e4 : n / 256 ^ 4 % 256 ≡ n / 4294967296 % 256 = omega arith in
    let e3 : n / 256 ^ 3 % 256 ≡ n % 4294967296 / 16777216 % 256 = omega arith in
    let e2 : n / 256 ^ 2 % 256 ≡ n % 4294967296 / 65536 % 256 = omega arith in
    let e1 : n / 256 ^ 1 % 256 ≡ n % 4294967296 / 256 % 256 = omega arith in
    let e0 : n % 256 ≡ n % 4294967296 % 256 = omega arith in
    rw (e7, e6, e5, e4, e3, e2, e1, e0)
