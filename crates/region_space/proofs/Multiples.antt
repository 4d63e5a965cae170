-- Multiples of a unit.
use Rattle.std.proofs.Common.{◌≡◌, ℕ, ◌+◌, ◌-◌, ◌*◌, ◌/◌, ◌%◌, ◌<◌, ◌≤◌, arith}
use Rattle.std.proofs.Math.Nat.{mul-mod_left, div-lt_iff_lt-mul, mul-le-mul_left}
use Rattle.std.proofs.lemmas.Nat.{div-add-mod'}
use Rattle.region_space.specs.Fitting.{IsMultipleFrom}

pub multiple_from : (bytes unit : ℕ) → 0 < unit → IsMultipleFrom bytes unit ((bytes + (unit - 1)) / unit * unit)
multiple_from bytes unit some =
    let x = bytes + (unit - 1) in
    let back : x / unit * unit + x % unit ≡ x = div-add-mod' x unit in
    let rest : x % unit < unit = omega arith in
    record {
      whole = mul-mod_left (x / unit) unit;
      from = omega (arith, back, rest);
      near = omega (arith, back, some);
      least = λ k multiple le.
          let back' : k / unit * unit + k % unit ≡ k = div-add-mod' k unit in
          let less : x / unit < k / unit + 1 = (div-lt_iff_lt-mul {k = unit} {x = x} {y = k / unit + 1} some).1 (omega (arith, back', multiple)) in
          let le' : unit * (x / unit) ≤ unit * (k / unit) = mul-le-mul_left unit (omega (arith, less)) in
          omega (arith, le', back', multiple);
    }
