-- An object has one ordinal, and an ordinal one object.
use Rattle.boxed_laws.proofs.ObjectNumbers.{ordinal_is, object_again, object_good, ordinal_again}
use Rattle.map_section.specs.Laws.{OrdinalLaw}

pub ordinal_law : OrdinalLaw
ordinal_law = record {
  of_object = λ o good. (ordinal_is o good, object_again o good);
  of_ordinal = λ n good. (object_good n good, ordinal_again n good);
}
