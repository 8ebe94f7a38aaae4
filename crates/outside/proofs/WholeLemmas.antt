-- Reading a file whole, turn by turn.
use Rattle.std.proofs.Common.{◌≡◌, ◌≢◌, ◌⊎◌, ℕ, ◌+◌, ◌≤◌, ◌<◌, List, [], ◌∷◌, ◌++◌, length, take, Option, Some, None, Ok, Err, refl, sym, ◌∙◌, ap, inl, inr, arith, append_assoc, length-append, add-zero, zero-add, add_assoc, append-nil, take_all}
use Rattle.std.proofs.lemmas.List.{length-take, nil_from_length}
use Rattle.outside.proofs.ReadingLemmas.{bytes_given_push}
use Rattle.std.proofs.Math.Seq.{take-add}
use Rattle.outside.specs.declared.whole.WholeError.{WholeError}
use Rattle.outside.specs.declared.whole.WholeError.TheVariants as error
use Rattle.outside.specs.Faults.{Rose}
use Rattle.outside.specs.Readings.{Reading, bytes_given, reading}
use Rattle.outside.specs.Files.{Contents, FilesState, OnlyReads, Has, Lacks, IsPartOf, IsPartIn}
use Rattle.outside.specs.Whole.{Follow, Gave, Tells, Exceeds, IsWhole, Explains, Settles}
use Rattle.outside.specs.Turns.{Takes, Stops}

-- the bytes are the first of the file
abbrev pub BeginsOf : Option (List ℕ) → List ℕ → Type 0
BeginsOf None bytes = bytes ≡ []
BeginsOf (Some file) bytes = bytes ≡ take (length bytes) file

-- where contents are told, the bytes are the first of the file of this name
abbrev pub Begins : Option Contents → List ℕ → List ℕ → Type 0
Begins None name bytes = Unit {0}
Begins (Some contents) name bytes = BeginsOf (contents name) bytes

-- the turns so far
pub record SoFar (before after : FilesState) (name : List ℕ) (most : ℕ) (bytes : List ℕ) : Type 0 where
  pub gave : Gave before after name bytes
  pub within : length bytes ≤ most
  pub begins : Begins before.contents name bytes
  pub only_reads : OnlyReads before after
  pub missing : Lacks before.contents name → after.read_faults ≡ before.read_faults

-- readings that follow one another, and one more that begins where they ended
pub follow-snoc : (name : List ℕ) (place : ℕ) (readings : List Reading) (last : Reading) → Follow name place readings → last.name ≡ name →
    last.place ≡ place + length (bytes_given readings) → 0 < length last.bytes → Follow name place (readings ++ last ∷ [])
follow-snoc name place [] last follow same next some = (same, next ∙ add-zero place, some, tt)
follow-snoc name place (r ∷ rs) last follow same next some =
    let further : last.place ≡ (place + length r.bytes) + length (bytes_given rs) = omega (arith, next, length-append r.bytes (bytes_given rs)) in
    (follow.0, follow.1, follow.2, follow-snoc name (place + length r.bytes) rs last follow.3 same further some)

-- what was given before a reading that begins where it ended, and that reading
pub gave-more : (before mid after : FilesState) (name bytes : List ℕ) (room : ℕ) (piece : List ℕ) → Gave before mid name bytes → 0 < length piece →
    after.given ≡ mid.given ++ reading name (length bytes) room piece ∷ [] → Gave before after name (bytes ++ piece)
gave-more before mid after name bytes room piece gave some more =
    let last : Reading = reading name (length bytes) room piece in
    let next : length bytes ≡ 0 + length (bytes_given gave.readings) = omega (arith, ap length gave.joined) in
    record {
      readings = gave.readings ++ last ∷ [];
      given = more ∙ (ap (λ (given : List Reading). given ++ last ∷ []) gave.given ∙ append_assoc before.given gave.readings (last ∷ []));
      follow = follow-snoc name 0 gave.readings last gave.follow refl next some;
      joined = ap (λ (given : List ℕ). given ++ piece) gave.joined ∙ sym (bytes_given_push gave.readings last);
    }

-- the file has at least as many bytes as begin it
begins-within : (file bytes : List ℕ) → bytes ≡ take (length bytes) file → length bytes ≤ length file
begins-within file bytes begins = omega (arith, length-take (length bytes) file, ap length begins)

begins-more-of : (o : Option (List ℕ)) (bytes : List ℕ) (room : ℕ) (piece : List ℕ) → BeginsOf o bytes → IsPartOf o (length bytes) room piece → BeginsOf o (bytes ++ piece)
begins-more-of None bytes room piece begins part = absurd part
begins-more-of (Some file) bytes room piece begins part =
    rw (length-append bytes piece, take-add (length bytes) (length piece) file, ← begins, ← part.bytes) refl

-- a part from where the bytes end makes them more of the file
pub begins-more : (contents : Option Contents) (name bytes : List ℕ) (room : ℕ) (piece : List ℕ) → Begins contents name bytes → IsPartIn contents name (length bytes) room piece → Begins contents name (bytes ++ piece)
begins-more None name bytes room piece begins part = tt
begins-more (Some contents) name bytes room piece begins part = begins-more-of (contents name) bytes room piece begins part

ends-of : (o : Option (List ℕ)) (bytes : List ℕ) (room : ℕ) (piece : List ℕ) → 0 < room → length piece ≡ 0 → BeginsOf o bytes → IsPartOf o (length bytes) room piece → o ≡ Some bytes
ends-of None bytes room piece some empty begins part = absurd part
ends-of (Some file) bytes room piece some empty begins part =
    elim (part.none empty) [
      | inl none ↦ absurd (omega arith)
      | inr end ↦ ap Some (sym (begins ∙ take_all (length bytes) file end))
    ]

-- where nothing stands behind the bytes, they are the file
pub ends : (contents : Option Contents) (name bytes : List ℕ) (room : ℕ) (piece : List ℕ) → 0 < room → length piece ≡ 0 → Begins contents name bytes → IsPartIn contents name (length bytes) room piece → Tells contents name bytes
ends None name bytes room piece some empty begins part = tt
ends (Some contents) name bytes room piece some empty begins part = ends-of (contents name) bytes room piece some empty begins part

exceeds-of : (o : Option (List ℕ)) (bytes : List ℕ) (most : ℕ) → 0 < length bytes → length bytes ≡ most + 1 → BeginsOf o bytes → (file : List ℕ) × (o ≡ Some file) × (most < length file)
exceeds-of None bytes most some count begins = absurd (omega (arith, ap length begins))
exceeds-of (Some file) bytes most some count begins = (file, refl, omega (arith, begins-within file bytes begins))

-- a file that begins with so many bytes has more than one less
pub exceeds : (contents : Option Contents) (name bytes : List ℕ) (most : ℕ) → 0 < length bytes → length bytes ≡ most + 1 → Begins contents name bytes → Exceeds contents name most
exceeds None name bytes most some count begins = tt
exceeds (Some contents) name bytes most some count begins = exceeds-of (contents name) bytes most some count begins

-- a count that rose over a part of the time rose over all of it
pub rose-earlier : (first before after : ℕ) → first ≤ before → Rose before after → Rose first after
rose-earlier first before after le rose = omega arith

begins_empty_of : (o : Option (List ℕ)) → BeginsOf o []
begins_empty_of None = refl
begins_empty_of (Some file) = refl

begins_empty : (contents : Option Contents) (name : List ℕ) → Begins contents name []
begins_empty None name = tt
begins_empty (Some contents) name = begins_empty_of (contents name)

-- no turn yet
pub none_yet : (state : FilesState) (name : List ℕ) (most : ℕ) → SoFar state state name most []
none_yet state name most = record {
  gave = record { readings = []; given = sym (append-nil state.given); follow = tt; joined = refl };
  within = omega arith;
  begins = begins_empty state.contents name;
  only_reads = record { contents = refl; writes = refl; write_faults = refl; read_faults = omega arith };
  missing = λ _. refl;
}

-- reading in two parts is reading
pub reads-again : (before mid after : FilesState) → OnlyReads before mid → OnlyReads mid after → OnlyReads before after
reads-again before mid after one two = record {
  contents = two.contents ∙ one.contents;
  writes = two.writes ∙ one.writes;
  write_faults = two.write_faults ∙ one.write_faults;
  read_faults = omega arith;
}

-- a missing name raises no count in two parts either
pub missing-again : (before mid after : FilesState) (name : List ℕ) → mid.contents ≡ before.contents →
    (Lacks before.contents name → mid.read_faults ≡ before.read_faults) → (Lacks mid.contents name → after.read_faults ≡ mid.read_faults) →
    Lacks before.contents name → after.read_faults ≡ before.read_faults
missing-again before mid after name same one two lacks = two (rw same lacks) ∙ one lacks

-- one turn more
pub one_more : (before mid after : FilesState) (name : List ℕ) (most : ℕ) (old new : List ℕ) (count : ℕ) → 0 < count →
    SoFar before mid name most old → Takes mid after name most old new count → OnlyReads mid after →
    (Lacks mid.contents name → after.read_faults ≡ mid.read_faults) → SoFar before after name most new
one_more before mid after name most old new count some so_far takes only missing =
    let same : mid.contents ≡ before.contents = so_far.only_reads.contents in
    let part : IsPartIn before.contents name (length old) takes.gave.room takes.piece = rw (← same) takes.gave.told in
    rw takes.joined (record {
      gave = gave-more before mid after name old takes.gave.room takes.piece so_far.gave (omega (arith, takes.counted, some)) takes.gave.given;
      within = rw (← takes.joined) takes.within;
      begins = begins-more before.contents name old takes.gave.room takes.piece so_far.begins part;
      only_reads = reads-again before mid after so_far.only_reads only;
      missing = missing-again before mid after name same so_far.missing missing;
    })

-- a turn that took nothing ends the file
pub the_last : (before mid after : FilesState) (name : List ℕ) (most : ℕ) (old new : List ℕ) (count : ℕ) → count ≡ 0 →
    SoFar before mid name most old → Takes mid after name most old new count → IsWhole before after name most new
the_last before mid after name most old new count none so_far takes =
    let same : mid.contents ≡ before.contents = so_far.only_reads.contents in
    let part : IsPartIn before.contents name (length old) takes.gave.room takes.piece = rw (← same) takes.gave.told in
    let short : length takes.piece ≡ 0 = takes.counted ∙ none in
    let empty : takes.piece ≡ [] = nil_from_length takes.piece short in
    let all : new ≡ old = takes.joined ∙ (ap (λ p. old ++ p) empty ∙ append-nil old) in
    let end : List Reading = reading name (length old) takes.gave.room [] ∷ [] in
    let given : after.given ≡ mid.given ++ end =
    takes.gave.given ∙ ap (λ (piece : List ℕ). mid.given ++ reading name (length old) takes.gave.room piece ∷ []) empty in
    let ended : after.given ≡ before.given ++ (so_far.gave.readings ++ end) =
    given ∙ (ap (λ (given : List Reading). given ++ end) so_far.gave.given ∙ append_assoc before.given so_far.gave.readings end) in
    rw all (record {
      within = so_far.within;
      gave = record {
        readings = so_far.gave.readings;
        room = takes.gave.room;
        some_room = takes.gave.some_room;
        given = ended;
        follow = so_far.gave.follow;
        joined = so_far.gave.joined;
      };
      told = ends before.contents name old takes.gave.room takes.piece takes.gave.some_room short so_far.begins part;
    })

-- a turn that stopped, and why
pub explains : (before mid after : FilesState) (name : List ℕ) (most : ℕ) (old : List ℕ) (e : WholeError) →
    SoFar before mid name most old → Stops mid after name most old e → Explains before after name most e
explains before mid after name most old error.NoMemory so_far stops = record {
  bytes = old ++ stops.piece;
  gave = gave-more before mid after name old stops.gave.room stops.piece so_far.gave stops.some stops.gave.given;
  count = rw (length-append old stops.piece) stops.within;
}
explains before mid after name most old error.Failed so_far stops = record {
  stopped = record {
    bytes = old;
    gave = record { readings = so_far.gave.readings; given = stops.given ∙ so_far.gave.given; follow = so_far.gave.follow; joined = so_far.gave.joined };
    count = so_far.within;
  };
  cause = elim stops.cause [
    | inl rose ↦ inl (rose-earlier before.read_faults mid.read_faults after.read_faults so_far.only_reads.read_faults rose)
    | inr lacks ↦ inr (rw (← so_far.only_reads.contents) lacks)
  ];
}
explains before mid after name most old error.OverLimit so_far stops =
    let same : mid.contents ≡ before.contents = so_far.only_reads.contents in
    let part : IsPartIn before.contents name (length old) stops.gave.room stops.piece = rw (← same) stops.gave.told in
    let count : length (old ++ stops.piece) ≡ most + 1 = length-append old stops.piece ∙ stops.count in
    record {
      bytes = old ++ stops.piece;
      gave = gave-more before mid after name old stops.gave.room stops.piece so_far.gave (omega (arith, stops.count, so_far.within)) stops.gave.given;
      count = count;
      told = exceeds before.contents name (old ++ stops.piece) most (omega (arith, count)) count (begins-more before.contents name old stops.gave.room stops.piece so_far.begins part);
    }

has_one : (contents : Option Contents) (name file bytes : List ℕ) → Has contents name file → Tells contents name bytes → file ≡ bytes
has_one None name file bytes has tells = absurd has
has_one (Some contents) name file bytes has tells = let e : Some file ≡ Some bytes = sym has ∙ tells in cc

has-within : (contents : Option Contents) (name file : List ℕ) (most : ℕ) → Has contents name file → Exceeds contents name most → most < length file
has-within None name file most has more = absurd has
has-within (Some contents) name file most has more =
    let e : Some file ≡ Some more.0 = sym has ∙ more.1 in
    let same : file ≡ more.0 = cc in
    rw same more.2

not_both : (contents : Option Contents) (name file : List ℕ) → Has contents name file → Lacks contents name → ⊥
not_both None name file has lacks = has
not_both (Some contents) name file has lacks = let e : Some file ≡ None = sym has ∙ lacks in cc

no_cause : (before after : FilesState) (name file : List ℕ) → Has before.contents name file → ¬ Rose before.read_faults after.read_faults → Rose before.read_faults after.read_faults ⊎ Lacks before.contents name → ⊥
no_cause before after name file has quiet cause = elim cause [ inl rose ↦ quiet rose | inr lacks ↦ not_both before.contents name file has lacks ]

-- a file that was read is within the limit
pub settles-ok : {T : Type 0} (before after : FilesState) (name : List ℕ) (most : ℕ) (bytes : List ℕ) (v : T) → IsWhole before after name most bytes → Settles before after name most (Ok v)
settles-ok before after name most bytes v whole = record {
  short = λ file has quiet within. tt;
  long = λ file has quiet more. absurd (omega (arith, whole.within, ap length (has_one before.contents name file bytes has whole.told)));
}

-- an error that is explained is the one that is due
pub settles-err : {T : Type 0} (before after : FilesState) (name : List ℕ) (most : ℕ) (e : WholeError) → Explains before after name most e → Settles {T = T} before after name most (Err e)
settles-err before after name most error.NoMemory why = record {
  short = λ file has quiet within. refl;
  long = λ file has quiet more. inr refl;
}
settles-err before after name most error.Failed why = record {
  short = λ file has quiet within. absurd (no_cause before after name file has quiet why.cause);
  long = λ file has quiet more. absurd (no_cause before after name file has quiet why.cause);
}
settles-err before after name most error.OverLimit why = record {
  short = λ file has quiet within. absurd (omega (arith, has-within before.contents name file most has why.told));
  long = λ file has quiet more. inl refl;
}
