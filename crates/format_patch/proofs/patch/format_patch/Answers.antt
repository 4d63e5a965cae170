use Rattle.std.proofs.Common.{◌∙◌, ◌++◌, ◌∷◌, [], List, refl, ap, subst}
use Rattle.interleave.proofs.First.{on_ok}
use Rattle.cut_words.specs.Words.{Words}
use Rattle.power_cut.specs.Namespace.{IsLaid, Namespace, over}
use Rattle.power_cut.proofs.Spread.{laid_any}
use Rattle.namespace_bytes.specs.declared.new_bytes.NewBytes.TheVariants.{Runs}
use Rattle.namespace_bytes.specs.declared.runs.Run.{Run}
use Rattle.format_patch.specs.Cut.{AreFormatPatch}
use Rattle.format_patch.proofs.Cut.{is_patch, runs_are}
use Rattle.format_patch.proofs.patch.format_patch.Goals as goal

pub returns : goal.returns
returns c =
    let l = c.args.layout.now in
    let uuid = c.args.uuid.now in
    let map : Run = record { first = c.args.layout.now.map_off; bytes = c.from_vec.result } in
    let info : Run = record { first = 0; bytes = c.from_vec-2.result } in
    let runs = c.from_vec-3.ensures ∙ c.in_ok-push-2.ensures.items ∙ ap (λ (rs : List Run). rs ++ info ∷ []) (c.in_ok-push.ensures.items ∙ ap (λ (rs : List Run). rs ++ map ∷ []) c.new-runs.ensures.items) in
    let laid : IsLaid (over c.args.set c.args.offset c.args.raw []) = subst (λ (n : Namespace). IsLaid n) c.of-extent.ensures.made c.of-extent.ensures.laid in
    on_ok c.one.result _ (AreFormatPatch c.args.set c.args.offset c.args.raw c.args.layout.now c.args.uuid.now c.args.words)
    (λ patches made. (
      record { set = c.args.set; offset = c.args.offset; raw = c.args.raw; bytes = Runs c.from_vec-3.result },
      made,
      is_patch c.args.layout.now c.args.uuid.now c.new_block-block.result c.requires.layout c.new_block-block.ensures c.args.set c.args.offset c.args.raw c.args.words
          (record { set = c.args.set; offset = c.args.offset; raw = c.args.raw; bytes = Runs c.from_vec-3.result }) c.from_vec-3.result refl
          (runs ∙ runs_are c.args.layout.now c.args.uuid.now c.new_block-block.result c.requires.layout c.new_block-block.ensures c.args.words c.min.result c.saturating_sub.result c.count_behind-behind.result c.count_behind-behind.ensures
          c.min.ensures c.saturating_sub.ensures c.from_vec.result c.from_vec-2.result (c.from_vec.ensures ∙ c.in_ok-bytes_behind.ensures) (c.from_vec-2.ensures ∙ c.in_ok-block_bytes.ensures))
          (λ (modules : List Words). laid_any (over c.args.set c.args.offset c.args.raw []) modules laid) c.requires.room,
    ))
    c.one.ensures.made
