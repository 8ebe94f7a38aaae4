use Rattle.std.proofs.Common.{Option, rules, subst}
use Rattle.std.specs.Prelude.{IfSome}
use Rattle.obf_reader.specs.declared.sections.KeptSections.{KeptSections}
use Rattle.obf_reader.specs.Kept.{AreKept}
use Rattle.obf_reader.specs.Parts.{beside_of}
use Rattle.obf_reader.proofs.GoodFiles.{good_read}
use Rattle.obf_reader.proofs.reading.read_good.Goals as goal

pub returns : goal.returns
returns c =
    let bytes = c.args.bytes.now in
    let parts = c.in_ok-parts.parts in
    let kept : AreKept (beside_of parts) bytes parts.sections c.in-Some-found.kept =
    subst (λ (o : Option KeptSections). IfSome o (AreKept (beside_of parts) bytes parts.sections)) c.in-Some-found.is c.in_ok-found.ensures in
    good_read bytes c.in-Some.top parts c.in-Some-found.kept c.in_ok-parts.ensures.rising c.in_ok-parts.ensures.inside c.in_ok-parts.ensures.parts c.in-Some.ensures
    (let h = c.if-not-stand_alike.ensures in search rules) (let h = c.if-not-are_good.ensures in search rules) kept
