use Rattle.std.proofs.Common.{◌≡◌, take, length, append_assoc, Ok, Err}
use Rattle.std.specs.Prelude.{OnErr}
use Rattle.text_pieces.proofs.Fronts.{front_of_longer}
use Rattle.text_pieces.proofs.writing.begin_degrees.Goals as goal

pub returns-clause-err : goal.returns-clause-err
returns-clause-err c =
    elim c.begin_fraction.result as (λ r. OnErr r (take (length c.put_number.new.out.items) c.begin_fraction.new.out.items ≡ c.put_number.new.out.items) → OnErr r (take (length c.args.out.now.items) c.begin_fraction.new.out.items ≡ c.args.out.now.items)) [
      | Ok x ↦ λ h. h
      | Err e ↦ λ h. front_of_longer c.args.out.now.items _ c.begin_fraction.new.out.items (rw (c.in_ok-put_number.ensures.ok, c.in_ok-put_bytes.ensures.ok, append_assoc) at h)
    ] c.begin_fraction.ensures.err
