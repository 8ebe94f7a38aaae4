use Rattle.std.proofs.Common.{◌∙◌, ◌++◌, ◌∷◌, [], ap, append_assoc, map, refl, subst, sym}
use Rattle.std.specs.Arc.{arc_value}
use Rattle.std.proofs.lemmas.Result.{err_from_is_err_and}
use Rattle.run_model.specs.Endings.{ending}
use Rattle.obf_run.specs.Images.{AreRead}
use Rattle.obf_run.proofs.HeldImages.{ends_at_file, none_read, one_more_read}
use Rattle.obf_run.proofs.images.read_images.Goals as goal

pub loop-name-init : goal.loop-name-init
loop-name-init g c = (
  [],
  refl,
  subst (λ images. AreRead (g.F.Files.state c.args.files.now) (g.F.Files.state c.args.files.now) [] (map arc_value images)) (sym c.new-images.ensures.items)
      (none_read (g.F.Files.state c.args.files.now)),
)

pub loop-name-preserved : goal.loop-name-preserved
loop-name-preserved g c =
    let so_far = c.loop-name.invariant.0 in
    let name = c.in-Some.name.now in
    let others = c.in-Some.others.now in
    let first = c.in-Some.ensures.cases.0 in (
      so_far ++ name ∷ [],
      c.loop-name.invariant.1 ∙ ap (λ ns. so_far ++ ns) first ∙ sym (append_assoc so_far (name ∷ []) others),
      rw (← c.as_str.ensures) (one_more_read _ _ _ so_far c.as_str.result.now (map arc_value c.loop-name.images.items) (map arc_value c.read_next.new.images.items) c.loop-name.invariant.2
          c.in_ok-read_next.ensures.read),
    )

pub returns-in_err-read_next-clause-ends : goal.returns-in_err-read_next-clause-ends
returns-in_err-read_next-clause-ends g c =
    let so_far = c.loop-name.invariant.0 in
    let others = c.in-Some.others.now in
    let first = c.in-Some.ensures.cases.0 in
    let p = err_from_is_err_and c.from_residual.result c.from_residual.ensures.1 in
    rw (p.1, p.2) (ends_at_file _ _ _ so_far c.args.names.now c.as_str.result.now others (map arc_value c.loop-name.images.items) (ending c.in_err-read_next.field-0.0)
    c.loop-name.invariant.2 (c.loop-name.invariant.1 ∙ ap (λ ns. so_far ++ ns) (first ∙ ap (λ n. n ∷ others) (sym c.as_str.ensures))) c.in_err-read_next.ensures.ends
    c.in_err-read_next.ensures.only_reads)
