-- Runs of bad words.
use Rattle.std.proofs.Common.{◌≡◌, ℕ, ◌+◌, ◌-◌, ◌/◌, Bool, true, false, List, [], ◌∷◌, ◌++◌, map, sym, ap, ◌∙◌, append_assoc}
use Rattle.std.specs.Prelude.{filter}
use Rattle.std.specs.List.{range_with_len, list_any}
use Rattle.std.proofs.lemmas.List.{append-nil}
use Rattle.arena_layout.specs.declared.layout.Layout.{Layout}
use Rattle.arena_check.specs.declared.finding.Finding.{Finding}
use Rattle.arena_check.specs.declared.finding.Finding.TheVariants as found
use Rattle.arena_check.specs.Check.{bad_meta, meta_findings}
use Rattle.arena_check.proofs.Picked.{range-append, picked-append, none_picked, listed_hit, listed_past}

pub meta_append : (bad : ℕ → Bool) (a m n b k : ℕ) → a + m ≡ b → m + n ≡ k → bad_meta bad a k ≡ bad_meta bad a m ++ bad_meta bad b n
unfolding bad_meta
meta_append bad a m n b k e f =
    ap (λ (l : List ℕ). map found.BadMeta (filter bad l)) (range-append a m n b k e f) ∙ picked-append found.BadMeta bad (range_with_len a m) (range_with_len b n)

pub meta_none : (bad : ℕ → Bool) (a n : ℕ) (before : List Finding) → list_any bad (range_with_len a n) ≡ false → before ≡ before ++ bad_meta bad a n
unfolding bad_meta
meta_none bad a n before e = sym (ap (λ (l : List Finding). before ++ l) (none_picked found.BadMeta bad (range_with_len a n) e) ∙ append-nil before)

pub meta_start : (bad : ℕ → Bool) (a n : ℕ) (before : List Finding) → n ≡ 0 → before ≡ before ++ bad_meta bad a n
unfolding bad_meta
meta_start bad a n before e = sym (append-nil before) ∙ ap (λ (k : ℕ). before ++ bad_meta bad a k) (sym e)

pub meta_hit : (bad : ℕ → Bool) (a n j k : ℕ) (before now next : List Finding) → a + n ≡ j → n + 1 ≡ k → bad j ≡ true
    → now ≡ before ++ bad_meta bad a n → next ≡ now ++ found.BadMeta j ∷ [] → next ≡ before ++ bad_meta bad a k
unfolding bad_meta
meta_hit bad a n j k before now next e f hit was is = listed_hit found.BadMeta bad a n j k before now next e f hit was is

pub meta_past : (bad : ℕ → Bool) (a n j k : ℕ) (before now next : List Finding) → a + n ≡ j → n + 1 ≡ k → bad j ≡ false
    → now ≡ before ++ bad_meta bad a n → next ≡ now → next ≡ before ++ bad_meta bad a k
unfolding bad_meta
meta_past bad a n j k before now next e f miss was is = listed_past found.BadMeta bad a n j k before now next e f miss was is

pub pages_on : (bad : ℕ → Bool) (a m n b k : ℕ) (before now next : List Finding) → a + m ≡ b → m + n ≡ k
    → now ≡ before ++ bad_meta bad a m → next ≡ now ++ bad_meta bad b n → next ≡ before ++ bad_meta bad a k
pages_on bad a m n b k before now next e f was is =
    is ∙ ap (λ (l : List Finding). l ++ bad_meta bad b n) was ∙ append_assoc before (bad_meta bad a m) (bad_meta bad b n) ∙ ap (λ (l : List Finding). before ++ l) (sym (meta_append bad a m n b k e f))

pub both_runs : (bad : ℕ → Bool) (at count : ℕ) (l : Layout) (f0 f1 f2 : List Finding) → count ≡ l.size / 8 - l.map_off / 8 → f0 ≡ []
    → f1 ≡ f0 ++ bad_meta bad at 512 → f2 ≡ f1 ++ bad_meta bad (at + l.map_off / 8) count → f2 ≡ meta_findings at bad l
unfolding meta_findings
both_runs bad at count l f0 f1 f2 e none first second =
    second
    ∙ (λ i. first i ++ bad_meta bad (at + l.map_off / 8) (e i))
    ∙ (λ i. (none i ++ bad_meta bad at 512) ++ bad_meta bad (at + l.map_off / 8) (l.size / 8 - l.map_off / 8))
