use Rattle.std.proofs.Common.{◌≡◌, ◌-◌, length, take, drop, min, arith, ap, ◌∙◌}
use Rattle.std.proofs.lemmas.List.{length-take-le}
use Rattle.nvd_media.specs.declared.object.Object.TheVariants as object
use Rattle.nvd_media.specs.Images.{bytes_of as bytes_in}
use Rattle.image_set.specs.Patches.{patched_row}
use Rattle.image_set.proofs.copying.copy_piece.Goals as goal

pub returns-clause-copied : goal.returns-clause-copied
returns-clause-copied g c =
    let lent = c.deref_mut.ensures.len in
    let least = c.min-count.ensures in
    let room = c.requires.room in
    let piece : length (take c.min-count.result c.deref_mut.result.now) ≡ c.min-count.result = length-take-le c.min-count.result c.deref_mut.result.now (omega arith) in
    let count : c.min-count.result ≡ min 262144 (c.args.bytes - c.args.at) = omega arith in
    record {
      row = c.read_patched.new.piece;
      long = let b = c.read_patched.auto.piece in omega arith;
      read = λ set told.
          c.in_ok-read_patched.ensures.told set told
          ∙ ap (λ n. patched_row (g.P.Patch.patched c.args.patch.now) c.args.«module» c.args.at (take n (drop c.args.at (bytes_in set (object.Contents c.args.«module»))))) (piece ∙ count);
      fit = c.in_ok-read_patched.ensures.fit;
      copies = record { told = c.in_ok-write.ensures.told; holds = c.in_ok-write.ensures.kept };
    }
