use Rattle.std.proofs.Common.{◌+◌, ◌++◌, ◌∷◌, drop, length, map, sym, ap, ◌∙◌, append_assoc}
use Rattle.std.specs.Arc.{arc_value}
use Rattle.file_lines.specs.FileLines.{file_line}
use Rattle.obf_reader.specs.Images.{Seen}
use Rattle.obf_reader.specs.Overlays.{overlay_of}
use Rattle.published_set.specs.Sets.{images_in}
use Rattle.session_text.specs.Sessions.{file_lines}
use Rattle.live_session.proofs.Played.{drop_at}
use Rattle.live_session.proofs.printing.put_images.Goals as goal

pub loop-image-preserved : goal.loop-image-preserved
loop-image-preserved c =
    let i = c.loop-image.image-index in
    let all = map arc_value c.args.images.now in
    let out = c.loop-image.out.items in
    let rest = file_lines (images_in (drop (i + 1) all)) in
    let line = λ (image : Seen). file_line image.head (length (overlay_of image).marks) (length (overlay_of image).records) in
    let next = drop_at arc_value c.args.images.now i c.image-item.result c.loop-image-test.true ∙ ap (λ x. arc_value x ∷ drop (i + 1) all) (sym c.image-item.is) in
    let put = c.in_ok-put_image.ensures ∙ ap (λ image. out ++ line image) c.deref.ensures in
    c.loop-image.invariant ∙ ap (λ xs. out ++ file_lines (images_in xs)) next
    ∙ sym (append_assoc out (line (arc_value c.image-item.result)) rest) ∙ ap (λ t. t ++ rest) (sym put)
