-- Numbers of hours.
use Rattle.std.proofs.Common.{◌≡◌, ℕ, true, Option, Some, None, sym, subst}
use Rattle.std.specs.Prelude.{is_some, IfSome}
use Rattle.std.proofs.lemmas.Bool.{false_from_ne_true}
use Rattle.stamp_core.specs.Hours.{CivilHour, IsCivilHour, number_of}
use Rattle.file_grammar.specs.Files.{is_hour}
use Rattle.file_grammar.proofs.HourNumbers.{civil_of, hour_is, hour_of, number_hour}

-- a number is found exactly where it is that of an hour
pub found_hour : (n : ℕ) (r : Option CivilHour) → IfSome r (λ s. IsCivilHour s × (number_of s ≡ n)) → ((c : CivilHour) → IsCivilHour c → number_of c ≡ n → r ≡ Some c) → is_some r ≡ is_hour n
found_hour n (Some c) found exact = sym (subst (λ (k : ℕ). is_hour k ≡ true) found.1 (hour_is c found.0))
found_hour n None found exact = sym (false_from_ne_true (is_hour n) (λ e. let x = exact (hour_of n) (civil_of n e) (number_hour n) in absurd cc))
