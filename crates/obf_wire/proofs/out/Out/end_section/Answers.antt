use Rattle.std.proofs.Common.{◌≡◌, length, ◌∙◌, arith, rules}
use Rattle.obf_wire.proofs.Begun.{section_ended}
use Rattle.obf_wire.proofs.out.Out.end_section.Goals as goal

pub returns : goal.returns
returns c =
    let long : c.self.inside.bytes.len ≡ length c.self.inside.bytes.items = search rules in
    λ number before payload is at.
    section_ended c.args.start _ _ c.len.result number c.self.inside.bytes.items c.deref_mut.result.now c.copy_from_slice.new.self before payload c.deref_mut.ensures.value long (omega (arith, c.requires.some)) (c.len.ensures ∙ long)
    (c.copy_from_slice.ensures.after ∙ c.to_be_bytes.ensures) (c.self.view_is ∙ is) at
