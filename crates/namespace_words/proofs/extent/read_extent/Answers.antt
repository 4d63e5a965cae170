use Rattle.std.proofs.Common.{◌≡◌, ℕ, ◌+◌, ◌-◌, ◌≤◌, List, length, take, drop, sym, ap, ◌∙◌, arith}
use Rattle.std.proofs.lemmas.List.{take_all}
use Rattle.nvd_media.specs.Images.{bytes_of as bytes_in}
use Rattle.nvd_media.specs.declared.object.Object.TheVariants as object
use Rattle.power_cut.specs.Namespace.{raw_bytes}
use Rattle.power_cut.proofs.Runs.{mid_front, mid_long, part_long}
use Rattle.namespace_words.specs.Source.{bytes_by}
use Rattle.namespace_words.proofs.HeldBytes.{raw_fits, turn_is, turn_room, turn_size, words_from}
use Rattle.namespace_words.proofs.extent.read_extent.Goals as goal

pub overflow_add-byte : goal.overflow_add-byte
overflow_add-byte g c = omega (arith, c.requires.inside, c.loop-done.invariant.count, c.loop-done-test.true, raw_fits c.args.extent.now c.bytes-bytes.ensures.laid)

pub place-module-requires : goal.place-module-requires
place-module-requires g c = omega (arith, c.requires.inside, c.loop-done.invariant.count, c.loop-done-test.true)

pub run_length-requires : goal.run_length-requires
run_length-requires g c = omega (arith, c.requires.inside, c.loop-done.invariant.count, c.loop-done-test.true)

pub read-requires : goal.read-requires
read-requires g c = λ source told.
    let size : ℕ = c.min-size.result in
    let done : ℕ = c.loop-done.done in
    let into = c.loop-done.into in
    let inside : c.args.first + length c.loop-done.into ≤ raw_bytes c.args.extent.now = omega (arith, c.requires.inside, c.loop-done.invariant.count) in
    let fits : done + size ≤ length c.loop-done.into =
    turn_size c.args.extent.now c.bytes-bytes.ensures.laid c.args.first c.loop-done.done (length c.loop-done.into) inside
    c.place-module.result.0 c.place-module.result.1 c.min-size.result c.run_length.result c.loop-done-test.true c.min-size.ensures c.run_length.ensures.some c.place-module.ensures c.run_length.ensures.run in
    let room : c.place-module.result.1 + c.min-size.result ≤ length (bytes_in source (object.Contents c.place-module.result.0)) =
    turn_room c.args.extent.now c.bytes-bytes.ensures.laid c.args.first c.loop-done.done (length c.loop-done.into) inside
    c.place-module.result.0 c.place-module.result.1 c.min-size.result c.run_length.result c.loop-done-test.true c.min-size.ensures c.run_length.ensures.some c.place-module.ensures c.run_length.ensures.run
    (g.S.ImageSource.held c.args.images.now) c.requires.there source (sym c.loop-done.invariant.same ∙ told) in
    omega (arith, room, part_long c.loop-done.done c.min-size.result c.loop-done.into fits)

pub loop-done-preserved : goal.loop-done-preserved
loop-done-preserved g c =
    let size : ℕ = c.min-size.result in
    let done : ℕ = c.loop-done.done in
    let into : List ℕ = c.loop-done.into in
    let inside : c.args.first + length c.loop-done.into ≤ raw_bytes c.args.extent.now = omega (arith, c.requires.inside, c.loop-done.invariant.count) in
    let fits : c.loop-done.done + c.min-size.result ≤ length c.loop-done.into =
    turn_size c.args.extent.now c.bytes-bytes.ensures.laid c.args.first c.loop-done.done (length c.loop-done.into) inside
    c.place-module.result.0 c.place-module.result.1 c.min-size.result c.run_length.result c.loop-done-test.true c.min-size.ensures c.run_length.ensures.some c.place-module.ensures c.run_length.ensures.run in
    let part : length (take (done + size - done) (drop done into)) ≡ size = part_long c.loop-done.done c.min-size.result c.loop-done.into fits in
    let long : length c.read.new.into ≡ size = c.read.auto.into ∙ part in
    let whole = mid_long done (done + size - done) size into c.read.new.into (omega arith) fits long in
    record {
      below = omega (arith, whole, fits);
      count = whole ∙ c.loop-done.invariant.count;
      same = c.in_ok-read.ensures.same ∙ c.loop-done.invariant.same;
      later = omega (arith, c.in_ok-read.ensures.cause.later, c.loop-done.invariant.later);
      front = λ contents reveals.
          mid_front done (done + size - done) size into c.read.new.into (drop c.args.first (bytes_by c.args.extent.now contents)) c.loop-done.invariant.below long (c.loop-done.invariant.front contents reveals)
          (turn_is c.args.extent.now c.bytes-bytes.ensures.laid c.args.first c.loop-done.done (length c.loop-done.into) inside
          c.place-module.result.0 c.place-module.result.1 c.min-size.result c.run_length.result c.loop-done-test.true c.min-size.ensures c.run_length.ensures.some c.place-module.ensures c.run_length.ensures.run
          (g.S.ImageSource.held c.args.images.now) contents c.read.new.into reveals
          (λ source told. c.in_ok-read.ensures.told source (c.loop-done.invariant.same ∙ told)
          ∙ ap (λ (n : ℕ). take n (drop c.place-module.result.1 (bytes_in source (object.Contents c.place-module.result.0)))) part));
    }

pub returns-clause-words : goal.returns-clause-words
returns-clause-words g c = λ contents reveals whole.
    let into : List ℕ = c.loop-done.into in
    let all : List ℕ = drop c.args.first (bytes_by c.args.extent.now contents) in
    let long : length c.loop-done.into ≤ c.loop-done.done = omega (arith, c.loop-done-test.false) in
    let are : c.loop-done.into ≡ take (length c.loop-done.into) (drop c.args.first (bytes_by c.args.extent.now contents)) =
    sym (take_all c.loop-done.done into long) ∙ c.loop-done.invariant.front contents reveals
    ∙ ap (λ (n : ℕ). take n all) (let same : c.loop-done.done ≡ length c.loop-done.into = omega (arith, long, c.loop-done.invariant.below) in same) in
    words_from c.args.extent.now c.bytes-bytes.ensures.laid contents reveals.reach c.args.first c.loop-done.into whole are (omega (arith, c.requires.inside, c.loop-done.invariant.count))
