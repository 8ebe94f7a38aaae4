-- What reads gave, what writes were tried, and what puts took.
use Rattle.std.specs.Prelude.{ℕ, List, [], ◌∷◌, ◌++◌, Bool, refl}
use Rattle.std.specs.Coded.{Coded, code_by, coded×, coded_bool, coded_ℕ, coded_list}

-- one read that had room for so many bytes, and gave these bytes of the file, from this offset on
pub record Reading : Type 0 where
  pub name : List ℕ
  pub place : ℕ
  pub room : ℕ
  pub bytes : List ℕ

abbrev pub reading : List ℕ → ℕ → ℕ → List ℕ → Reading
reading name place room bytes = record { name = name; place = place; room = room; bytes = bytes }

-- one write of these bytes under the name, and whether it answered Ok
pub record Writing : Type 0 where
  pub name : List ℕ
  pub bytes : List ℕ
  pub is_done : Bool

abbrev pub writing : List ℕ → List ℕ → Bool → Writing
writing name bytes is_done = record { name = name; bytes = bytes; is_done = is_done }

-- the bytes of all these readings, in order
abbrev pub bytes_given : List Reading → List ℕ
bytes_given [] = []
bytes_given (r ∷ rs) = r.bytes ++ bytes_given rs

-- all that is noted of an object: what its reads gave, the writes that were tried, and the bytes that its puts took, each in order
pub record Noted : Type 0 where
  pub given : List Reading
  pub writes : List Writing
  pub received : List ℕ

abbrev pub nothing_noted : Noted
nothing_noted = record { given = []; writes = []; received = [] }

-- how the logic keeps a list of readings, one of writings, and both with bytes
abbrev pub readings_code : Coded (List Reading)
readings_code =
    coded_list (code_by (List ℕ × (ℕ × (ℕ × List ℕ))) (coded× (coded_list coded_ℕ) (coded× coded_ℕ (coded× coded_ℕ (coded_list coded_ℕ))))
    (λ r. (r.name, (r.place, (r.room, r.bytes)))) (λ p. record { name = p.0; place = p.1.0; room = p.1.1.0; bytes = p.1.1.1 }) (λ _. refl))

abbrev pub writings_code : Coded (List Writing)
writings_code =
    coded_list (code_by (List ℕ × (List ℕ × Bool)) (coded× (coded_list coded_ℕ) (coded× (coded_list coded_ℕ) coded_bool))
    (λ w. (w.name, (w.bytes, w.is_done))) (λ p. record { name = p.0; bytes = p.1.0; is_done = p.1.1 }) (λ _. refl))

abbrev pub noted_code : Coded Noted
noted_code =
    code_by (List Reading × (List Writing × List ℕ)) (coded× readings_code (coded× writings_code (coded_list coded_ℕ)))
    (λ n. (n.given, (n.writes, n.received))) (λ p. record { given = p.0; writes = p.1.0; received = p.1.1 }) (λ _. refl)
