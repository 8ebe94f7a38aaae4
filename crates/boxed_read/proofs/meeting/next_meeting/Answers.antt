use Rattle.std.proofs.Common.{◌≡◌, ◌∙◌, List, ap, sym}
use Rattle.std.specs.Prelude.{slice_get}
use Rattle.live_model.specs.declared.points.Rect.{Rect}
use Rattle.boxed_exact.specs.declared.fields.Payload.{Payload}
use Rattle.box_tree.specs.Search.{first_meeting}
use Rattle.boxed_read.proofs.MeetingWalk.{next_met, no_more_met, none_met}
use Rattle.boxed_read.proofs.meeting.next_meeting.Goals as goal

pub returns-in_default : goal.returns-in_default
returns-in_default c =
    let found : c.leaf_meeting.result ≡ first_meeting c.args.kept.now.tree c.args.rect.now c.args.from = c.leaf_meeting.ensures ∙ ap (λ (ls : List Rect). first_meeting ls c.args.rect.now c.args.from) c.tree.ensures in
    none_met c.args.rect.now c.args.kept.now c.args.from (let is = c.in_default.is in cc)

pub returns-in_default-block_at : goal.returns-in_default-block_at
returns-in_default-block_at c =
    let found : c.leaf_meeting.result ≡ first_meeting c.args.kept.now.tree c.args.rect.now c.args.from = c.leaf_meeting.ensures ∙ ap (λ (ls : List Rect). first_meeting ls c.args.rect.now c.args.from) c.tree.ensures in
    no_more_met c.args.rect.now c.args.kept.now c.args.from c.in-Some.leaf (let is = c.in-Some.is in cc) (sym (c.block_at.ensures.found ∙ ap (λ (ps : List Payload). slice_get ps c.in-Some.leaf) c.blocks-2.ensures) ∙ c.in_default-block_at.is)

pub returns : goal.returns
returns c =
    let found : c.leaf_meeting.result ≡ first_meeting c.args.kept.now.tree c.args.rect.now c.args.from = c.leaf_meeting.ensures ∙ ap (λ (ls : List Rect). first_meeting ls c.args.rect.now c.args.from) c.tree.ensures in
    next_met c.args.rect.now c.args.kept.now c.args.from c.in-Some.leaf c.in-Some-block_at.span (let is = c.in-Some.is in cc) (sym (c.block_at.ensures.found ∙ ap (λ (ps : List Payload). slice_get ps c.in-Some.leaf) c.blocks-2.ensures) ∙ c.in-Some-block_at.is)
