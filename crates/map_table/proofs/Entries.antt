-- Entries and their words.
use Rattle.std.proofs.Common.{◌≡◌, ◌≢◌, ℕ, ◌/◌, ◌%◌, ◌^◌, ◌<◌, Bool, true, false, eqb, refl, sym, ◌∙◌, arith}
use Rattle.std.proofs.lemmas.Bool.{eq-eqb, ne_eqb, eqb-true, eqb-false}
use Rattle.map_table.specs.declared.kinds.Kind.TheVariants as kind
use Rattle.map_table.specs.Entry.{entry_of, normal_of, zero_of, entry_in, with_entry}

pub normal_back : (block sector : ℕ) → block < 2 ^ 30 → entry_of (normal_of block) sector ≡ record { kind = kind.Normal; block = block }
unfolding entry_of
normal_back block sector lt =
    let zero : eqb (normal_of block / 2 ^ 31 % 2) 1 ≡ true = eq-eqb (normal_of block / 2 ^ 31 % 2) 1 (omega arith) in
    let error : eqb (normal_of block / 2 ^ 30 % 2) 1 ≡ true = eq-eqb (normal_of block / 2 ^ 30 % 2) 1 (omega arith) in
    let bits : normal_of block % 2 ^ 30 ≡ block = omega arith in
    rw (zero, error) (λ i. record { kind = kind.Normal; block = bits i })

pub zero_back : (block sector : ℕ) → block < 2 ^ 30 → entry_of (zero_of block) sector ≡ record { kind = kind.Zero; block = block }
unfolding entry_of
zero_back block sector lt =
    let zero : eqb (zero_of block / 2 ^ 31 % 2) 1 ≡ true = eq-eqb (zero_of block / 2 ^ 31 % 2) 1 (omega arith) in
    let error : eqb (zero_of block / 2 ^ 30 % 2) 1 ≡ false = ne_eqb (zero_of block / 2 ^ 30 % 2) 1 (λ e. omega arith) in
    let bits : zero_of block % 2 ^ 30 ≡ block = omega arith in
    rw (zero, error) (λ i. record { kind = kind.Zero; block = bits i })

put_by : (even : Bool) (word sector entry : ℕ) → entry < 2 ^ 32 → eqb (sector % 2) 0 ≡ even → entry_in (with_entry word sector entry) sector ≡ entry
unfolding entry_in with_entry
put_by true word sector entry lt e = rw e (omega arith)
put_by false word sector entry lt e = rw e (omega arith)

-- an entry that was put in is read back
pub put_back : (word sector entry : ℕ) → entry < 2 ^ 32 → entry_in (with_entry word sector entry) sector ≡ entry
put_back word sector entry lt = put_by (eqb (sector % 2) 0) word sector entry lt refl

other_by : (even : Bool) (word sector entry other : ℕ) → entry < 2 ^ 32 → eqb (sector % 2) 0 ≡ even → other % 2 ≢ sector % 2
    → entry_in (with_entry word sector entry) other ≡ entry_in word other
unfolding entry_in with_entry
other_by true word sector entry other lt e apart =
    let o : eqb (other % 2) 0 ≡ false = ne_eqb (other % 2) 0 (λ z. apart (z ∙ sym (eqb-true (sector % 2) 0 e))) in
    rw (e, o) (omega arith)
other_by false word sector entry other lt e apart =
    let odd : sector % 2 ≢ 0 = eqb-false (sector % 2) 0 e in
    let o : eqb (other % 2) 0 ≡ true = eq-eqb (other % 2) 0 (omega (arith, apart, odd)) in
    rw (e, o) (omega arith)

-- the other entry of the word is unchanged
pub other_stays : (word sector entry other : ℕ) → entry < 2 ^ 32 → other % 2 ≢ sector % 2 → entry_in (with_entry word sector entry) other ≡ entry_in word other
other_stays word sector entry other lt apart = other_by (eqb (sector % 2) 0) word sector entry other lt refl apart
