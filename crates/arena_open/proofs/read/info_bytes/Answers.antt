use Rattle.std.proofs.Common.{◌≡◌, ◌*◌, ◌∙◌, ℕ, take, drop, sym, ap, arith}
use Rattle.std.proofs.lemmas.List.{take_all}
use Rattle.cut_words.specs.WordBytes.{bytes_of}
use Rattle.arena_open.proofs.read.info_bytes.Goals as goal

pub returns : goal.returns
returns g c =
    let e : c.loop-k.k ≡ 512 = omega arith in
    let end' : take 4096 c.loop-k.bytes ≡ bytes_of (take 512 (drop c.args.at (g.W.WordSpace.words c.args.space.now).kept)) =
    ap (λ (n : ℕ). take (8 * n) c.loop-k.bytes) (sym e) ∙ c.loop-k.invariant.front
    ∙ ap (λ (n : ℕ). bytes_of (take n (drop c.args.at (g.W.WordSpace.words c.args.space.now).kept))) e in
    sym (take_all 4096 c.loop-k.bytes (omega (arith, c.loop-k.invariant.count))) ∙ end'
