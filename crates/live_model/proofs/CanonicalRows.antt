-- The canonical line of a good object spells that object.
use Rattle.std.proofs.Common.{◌≡◌, ℕ, ◌+◌, ◌<◌, ◌≤◌, ◌^◌, false, List, [], ◌∷◌, ◌++◌, length, refl, sym, ap, ◌∙◌, arith, append_assoc, subst, Option, Some, None}
use Rattle.std.specs.Prelude.{codes, ℤ, unsigned_abs, IsUtf8}
use Rattle.std.specs.List.{flat_map, AllByRecursion}
use Rattle.std.proofs.lemmas.List.Concat.{flat_map-cons}
use Rattle.std.specs.Option.{IfSome}
use Rattle.std.specs.Fmt.{decimal as printed, signed_decimal}
use Rattle.std.proofs.lemmas.Str.{IsUtf8-append, IsUtf8-nil, is_utf8-from_IsUtf8}
use Rattle.text_pieces.specs.Lines.{placed}
use Rattle.text_pieces.specs.Coordinates.{degrees_text}
use Rattle.text_pieces.specs.Escapes.{escaped}
use Rattle.live_model.specs.declared.ids.Kind.{Kind}
use Rattle.live_model.specs.declared.ids.Kind.TheVariants.{Node, Way, Relation}
use Rattle.live_model.specs.declared.points.Point.{Point}
use Rattle.live_model.specs.declared.objects.Tag.{Tag}
use Rattle.live_model.specs.declared.objects.Member.{Member}
use Rattle.live_model.specs.declared.objects.Entity.{Entity}
use Rattle.live_model.specs.declared.objects.Line.TheVariants.{Live}
use Rattle.live_model.specs.Ids.{Id, IsId}
use Rattle.live_model.specs.Points.{IsInGrid, longitude, latitude, point_at}
use Rattle.live_model.specs.Objects.{AreTags, HasParts, IsGood}
use Rattle.live_model.specs.FieldValues.{object_of, gone_of, coordinate_of, tag_of, tags_from, ref_of, member_of}
use Rattle.live_model.specs.ObjectLines.{letter_of, line_with, line_of}
use Rattle.live_model.specs.OplTexts.{is_skipped}
use Rattle.live_model.specs.CanonicalLines.{id_text, tag_text, ref_text, member_text, kind_letter, listed, place_text, parts_text, row_text, HasTexts, CanonicalLaw}
use Rattle.live_model.proofs.CanonicalBytes.{IsPlain, ArePlain, IsNumeral, AreNumerals, all_weaker, all_append, printed_numeral, signed_numeral, degrees_numeral, numerals_plain, escaped_plain, escaped_utf8, ascii_utf8}
use Rattle.live_model.proofs.CanonicalParts.{IsWord, spaced, fields_spaced, all_listed}
use Rattle.live_model.proofs.CanonicalValues.{object_back, id_plain, version_back, coordinate_back, point_back, longitude_within, latitude_within, few_listed, tag_items, pairs_back, tags_back, tags_escapes, ref_items, refs_back, member_items, members_back, members_escapes}

-- Words of lines.

abbrev AreVisible : List ℕ → Type 0
AreVisible bytes = AllByRecursion (λ c. 33 ≤ c) bytes

plain_visible : (bytes : List ℕ) → ArePlain bytes → AreVisible bytes
plain_visible bytes all = all_weaker IsPlain (λ c. 33 ≤ c) (λ c is. is.visible) bytes all

numerals_visible : (bytes : List ℕ) → AreNumerals bytes → AreVisible bytes
numerals_visible bytes all = plain_visible bytes (numerals_plain bytes all)

numerals_utf8 : (bytes : List ℕ) → AreNumerals bytes → IsUtf8 bytes
numerals_utf8 bytes all = ascii_utf8 bytes (all_weaker IsNumeral (λ b. b < 128) (λ c is. let high = is.1 in omega arith) bytes all)

-- a word that may stand in UTF-8
pub record IsTextWord (word : List ℕ) : Type 0 where
  pub word_is : IsWord word
  pub utf8 : IsUtf8 word

lettered : (c : ℕ) (bytes : List ℕ) → 33 ≤ c → c < 128 → AreVisible bytes → IsUtf8 bytes → IsTextWord (c ∷ bytes)
lettered c bytes high low visible utf8 = record {
  word_is = record { some = omega arith; visible = (high, visible) };
  utf8 = IsUtf8-append (c ∷ []) bytes (ascii_utf8 (c ∷ []) (low, tt)) utf8;
}

id_word : (o : Id) → IsId o → IsTextWord (id_text o)
unfolding id_text
id_word o is = one o.kind o.number is
  where
    one : (k : Kind) (z : ℤ) → unsigned_abs z ≤ 2 ^ 48 → IsTextWord (id_text (record { kind = k; number = z }))
    one Node z is = let digits = signed_numeral z (omega arith) in lettered 110 (signed_decimal z) (omega arith) (omega arith) (numerals_visible _ digits) (numerals_utf8 _ digits)
    one Way z is = let digits = signed_numeral z (omega arith) in lettered 119 (signed_decimal z) (omega arith) (omega arith) (numerals_visible _ digits) (numerals_utf8 _ digits)
    one Relation z is = let digits = signed_numeral z (omega arith) in lettered 114 (signed_decimal z) (omega arith) (omega arith) (numerals_visible _ digits) (numerals_utf8 _ digits)

version_word : (version : ℕ) → version < 2 ^ 32 → IsTextWord (118 ∷ printed version)
version_word version fits =
    let digits = printed_numeral version (omega arith) in
    lettered 118 (printed version) (omega arith) (omega arith) (numerals_visible _ digits) (numerals_utf8 _ digits)

degrees_word : (c : ℕ) (z : ℤ) → 33 ≤ c → c < 128 → unsigned_abs z ≤ 1800000000 → IsTextWord (c ∷ degrees_text z)
degrees_word c z high low small =
    let digits = degrees_numeral z (omega arith) in
    lettered c (degrees_text z) high low (numerals_visible _ digits) (numerals_utf8 _ digits)

-- lists of UTF-8 items are UTF-8
listed_utf8 : (A : Type 0) (text : A → List ℕ) (xs : List A) → AllByRecursion (λ x. IsUtf8 (text x)) xs → IsUtf8 (listed text xs)
listed_utf8 A text [] all = IsUtf8-nil
listed_utf8 A text (x ∷ xs) all = IsUtf8-append (text x) (flat_map (λ y. 44 ∷ text y) xs) all.0 (more xs all.1)
  where
    more : (ys : List A) → AllByRecursion (λ y. IsUtf8 (text y)) ys → IsUtf8 (flat_map (λ y. 44 ∷ text y) ys)
    more [] all = IsUtf8-nil
    more (y ∷ ys) all =
        subst IsUtf8 (sym (flat_map-cons (λ z. 44 ∷ text z) y ys))
        (IsUtf8-append (44 ∷ text y) (flat_map (λ z. 44 ∷ text z) ys) (IsUtf8-append (44 ∷ []) (text y) (ascii_utf8 (44 ∷ []) (omega arith, tt)) all.0) (more ys all.1))

tags_word : (tags : List Tag) → AllByRecursion (λ t. IsUtf8 t.key × IsUtf8 t.value) tags → IsTextWord (84 ∷ listed tag_text tags)
unfolding tag_text
tags_word tags texts = lettered 84 (listed tag_text tags) (omega arith) (omega arith) (all_listed tag_text (λ c. 33 ≤ c) (omega arith) tags (visible tags)) (listed_utf8 Tag tag_text tags (utf8 tags texts))
  where
    visible : (tags : List Tag) → AllByRecursion (λ t. AreVisible (tag_text t)) tags
    visible [] = tt
    visible (t ∷ ts) = (all_append (λ c. 33 ≤ c) (escaped t.key) (61 ∷ escaped t.value) (plain_visible _ (escaped_plain t.key)) (omega arith, plain_visible _ (escaped_plain t.value)), visible ts)

    utf8 : (tags : List Tag) → AllByRecursion (λ t. IsUtf8 t.key × IsUtf8 t.value) tags → AllByRecursion (λ t. IsUtf8 (tag_text t)) tags
    utf8 [] texts = tt
    utf8 (t ∷ ts) texts =
        (IsUtf8-append (escaped t.key) (61 ∷ escaped t.value) (escaped_utf8 t.key texts.0.0) (IsUtf8-append (61 ∷ []) (escaped t.value) (ascii_utf8 (61 ∷ []) (omega arith, tt)) (escaped_utf8 t.value texts.0.1)), utf8 ts texts.1)

refs_word : (refs : List ℤ) → AllByRecursion (λ n. unsigned_abs n ≤ 2 ^ 48) refs → IsTextWord (78 ∷ listed ref_text refs)
unfolding ref_text
refs_word refs are = lettered 78 (listed ref_text refs) (omega arith) (omega arith) (all_listed ref_text (λ c. 33 ≤ c) (omega arith) refs (visible refs are)) (listed_utf8 ℤ ref_text refs (utf8 refs are))
  where
    word : (n : ℤ) → unsigned_abs n ≤ 2 ^ 48 → IsTextWord (110 ∷ signed_decimal n)
    word n is = let digits = signed_numeral n (omega arith) in lettered 110 (signed_decimal n) (omega arith) (omega arith) (numerals_visible _ digits) (numerals_utf8 _ digits)

    visible : (refs : List ℤ) → AllByRecursion (λ n. unsigned_abs n ≤ 2 ^ 48) refs → AllByRecursion (λ n. AreVisible (ref_text n)) refs
    visible [] are = tt
    visible (n ∷ ns) are = ((word n are.0).word_is.visible, visible ns are.1)

    utf8 : (refs : List ℤ) → AllByRecursion (λ n. unsigned_abs n ≤ 2 ^ 48) refs → AllByRecursion (λ n. IsUtf8 (ref_text n)) refs
    utf8 [] are = tt
    utf8 (n ∷ ns) are = ((word n are.0).utf8, utf8 ns are.1)

members_word : (members : List Member) → AllByRecursion (λ m. IsId m.target) members → AllByRecursion (λ m. IsUtf8 m.role) members → IsTextWord (77 ∷ listed member_text members)
unfolding member_text
members_word members are texts = lettered 77 (listed member_text members) (omega arith) (omega arith) (all_listed member_text (λ c. 33 ≤ c) (omega arith) members (visible members are)) (listed_utf8 Member member_text members (utf8 members are texts))
  where
    visible : (members : List Member) → AllByRecursion (λ m. IsId m.target) members → AllByRecursion (λ m. AreVisible (member_text m)) members
    visible [] are = tt
    visible (m ∷ ms) are = (all_append (λ c. 33 ≤ c) (id_text m.target) (64 ∷ escaped m.role) (plain_visible _ (id_plain m.target are.0)) (omega arith, plain_visible _ (escaped_plain m.role)), visible ms are.1)

    utf8 : (members : List Member) → AllByRecursion (λ m. IsId m.target) members → AllByRecursion (λ m. IsUtf8 m.role) members → AllByRecursion (λ m. IsUtf8 (member_text m)) members
    utf8 [] are texts = tt
    utf8 (m ∷ ms) are texts =
        (IsUtf8-append (id_text m.target) (64 ∷ escaped m.role) (id_word m.target are.0).utf8 (IsUtf8-append (64 ∷ []) (escaped m.role) (ascii_utf8 (64 ∷ []) (omega arith, tt)) (escaped_utf8 m.role texts.0)), utf8 ms are.1 texts.1)

-- Lines of such words.

spaced_utf8 : (words : List (List ℕ)) → AllByRecursion IsTextWord words → IsUtf8 (spaced words)
spaced_utf8 [] all = IsUtf8-nil
spaced_utf8 (word ∷ []) all = all.0.utf8
spaced_utf8 (word ∷ next ∷ words) all =
    IsUtf8-append word (32 ∷ spaced (next ∷ words)) all.0.utf8
    (IsUtf8-append (32 ∷ []) (spaced (next ∷ words)) (ascii_utf8 (32 ∷ []) (omega arith, tt)) (spaced_utf8 (next ∷ words) all.1))

-- a line of words is told by its first word and the others
line_of-spaced : (word : List ℕ) (words : List (List ℕ)) → AllByRecursion IsTextWord (word ∷ words) → line_of (spaced (word ∷ words)) ≡ line_with (object_of word) (placed (0 + (length word + 1)) words)
unfolding line_of
line_of-spaced word words all =
    let utf8 = is_utf8-from_IsUtf8 (spaced (word ∷ words)) (spaced_utf8 (word ∷ words) all) in
    let fields = fields_spaced 0 word words (all_weaker IsTextWord IsWord (λ w is. is.word_is) (word ∷ words) all) in
    rw (utf8, fields) refl

-- The lines.

live_word : IsTextWord (100 ∷ 86 ∷ [])
live_word = lettered 100 (86 ∷ []) (omega arith) (omega arith) (omega arith, tt) (ascii_utf8 (86 ∷ []) (omega arith, tt))

letter_word : (c : ℕ) → 33 ≤ c → c < 128 → IsTextWord (c ∷ [])
letter_word c high low = lettered c [] high low tt IsUtf8-nil

abbrev an_id : Kind → ℤ → Id
an_id kind number = record { kind = kind; number = number }

abbrev an_entity : Id → ℕ → List Tag → Option Point → List ℤ → List Member → Entity
an_entity o version tags place refs members = record { id = o; version = version; tags = tags; place = place; refs = refs; members = members }

-- what an object has whatever its kind
pub record IsBody (o : Id) (version : ℕ) (tags : List Tag) : Type 0 where
  pub id_is : IsId o
  pub fits : version < 2 ^ 32
  pub rising : AreTags tags
  pub few : length tags ≤ 65535
  pub texts : AllByRecursion (λ t. IsUtf8 t.key × IsUtf8 t.value) tags

-- the pieces of a line, one before the other
pieces_apart : (a s v t l p : List ℕ) → a ++ s ++ v ++ t ++ l ++ p ≡ a ++ (s ++ (v ++ (t ++ (l ++ p))))
pieces_apart a s v t l p =
    append_assoc (a ++ s ++ v ++ t) l p ∙ append_assoc (a ++ s ++ v) t (l ++ p) ∙ append_assoc (a ++ s) v (t ++ (l ++ p)) ∙ append_assoc a s (v ++ (t ++ (l ++ p)))

abbrev body_words : Id → ℕ → List Tag → List (List ℕ) → List (List ℕ)
body_words o version tags more = id_text o ∷ (118 ∷ printed version) ∷ (100 ∷ 86 ∷ []) ∷ (84 ∷ listed tag_text tags) ∷ more

row_words : (e : Entity) (word : List ℕ) (words : List (List ℕ)) → parts_text e.id.kind e ≡ 32 ∷ spaced (word ∷ words) → row_text e ≡ spaced (body_words e.id e.version e.tags (word ∷ words))
unfolding row_text
row_words e word words same =
    pieces_apart (id_text e.id) (codes " v") (printed e.version) (codes " dV T") (listed tag_text e.tags) (parts_text e.id.kind e)
    ∙ ap (λ p. id_text e.id ++ (codes " v" ++ (printed e.version ++ (codes " dV T" ++ (listed tag_text e.tags ++ p))))) same

place_line : (o : Id) (version : ℕ) (tags new : List Tag) (p q : Point) → new ≡ tags → q ≡ p → Some (Live (an_entity o version new (Some q) [] [])) ≡ Some (Live (an_entity o version tags (Some p) [] []))
place_line o version tags new p q e f = rw (e, f) refl

tags_line : (o : Id) (version : ℕ) (tags new : List Tag) (place : Option Point) (refs : List ℤ) (members : List Member) → new ≡ tags → Some (Live (an_entity o version new place refs members)) ≡ Some (Live (an_entity o version tags place refs members))
tags_line o version tags new place refs members e = rw e refl

node_with : (z : ℤ) (version : ℕ) (tags : List Tag) (p : Point) → IsBody (an_id Node z) version tags → IsInGrid p
    → line_of (row_text (an_entity (an_id Node z) version tags (Some p) [] [])) ≡ Some (Live (an_entity (an_id Node z) version tags (Some p) [] []))
unfolding letter_of gone_of
node_with z version tags p body within =
    let wide : unsigned_abs (longitude p) ≤ 1800000000 = longitude_within p within in
    let tall : unsigned_abs (latitude p) ≤ 900000000 = latitude_within p within in
    ap line_of (row_words (an_entity (an_id Node z) version tags (Some p) [] []) (120 ∷ degrees_text (longitude p)) ((121 ∷ degrees_text (latitude p)) ∷ [])
    (ap (λ bytes. 32 ∷ 120 ∷ bytes) (append_assoc (degrees_text (longitude p)) (32 ∷ 121 ∷ []) (degrees_text (latitude p)))))
    ∙ line_of-spaced (id_text (an_id Node z)) ((118 ∷ printed version) ∷ (100 ∷ 86 ∷ []) ∷ (84 ∷ listed tag_text tags) ∷ (120 ∷ degrees_text (longitude p)) ∷ (121 ∷ degrees_text (latitude p)) ∷ [])
    (id_word (an_id Node z) body.id_is, (version_word version body.fits, (live_word, (tags_word tags body.texts, (degrees_word 120 (longitude p) (omega arith) (omega arith) wide, (degrees_word 121 (latitude p) (omega arith) (omega arith) (omega arith), tt))))))
    ∙ rw (object_back (an_id Node z) body.id_is, version_back version body.fits, tags_escapes tags, pairs_back tags, few_listed tag_of tag_text tags (tag_items tags) body.few, coordinate_back 1800000000 (longitude p) wide wide, coordinate_back 900000000 (latitude p) tall (omega arith))
    (place_line (an_id Node z) version tags (tags_from tags) p (point_at (longitude p) (latitude p)) (tags_back tags body.rising) (point_back p))

node_without : (z : ℤ) (version : ℕ) (tags : List Tag) → IsBody (an_id Node z) version tags
    → line_of (row_text (an_entity (an_id Node z) version tags None [] [])) ≡ Some (Live (an_entity (an_id Node z) version tags None [] []))
unfolding letter_of gone_of coordinate_of
node_without z version tags body =
    ap line_of (row_words (an_entity (an_id Node z) version tags None [] []) (120 ∷ []) ((121 ∷ []) ∷ []) refl)
    ∙ line_of-spaced (id_text (an_id Node z)) ((118 ∷ printed version) ∷ (100 ∷ 86 ∷ []) ∷ (84 ∷ listed tag_text tags) ∷ (120 ∷ []) ∷ (121 ∷ []) ∷ [])
    (id_word (an_id Node z) body.id_is, (version_word version body.fits, (live_word, (tags_word tags body.texts, (letter_word 120 (omega arith) (omega arith), (letter_word 121 (omega arith) (omega arith), tt))))))
    ∙ rw (object_back (an_id Node z) body.id_is, version_back version body.fits, tags_escapes tags, pairs_back tags, few_listed tag_of tag_text tags (tag_items tags) body.few)
    (tags_line (an_id Node z) version tags (tags_from tags) None [] [] (tags_back tags body.rising))

way_back : (z : ℤ) (version : ℕ) (tags : List Tag) (refs : List ℤ) → IsBody (an_id Way z) version tags → AllByRecursion (λ n. unsigned_abs n ≤ 2 ^ 48) refs → length refs ≤ 65535
    → line_of (row_text (an_entity (an_id Way z) version tags None refs [])) ≡ Some (Live (an_entity (an_id Way z) version tags None refs []))
unfolding letter_of gone_of
way_back z version tags refs body are few =
    ap line_of (row_words (an_entity (an_id Way z) version tags None refs []) (78 ∷ listed ref_text refs) [] refl)
    ∙ line_of-spaced (id_text (an_id Way z)) ((118 ∷ printed version) ∷ (100 ∷ 86 ∷ []) ∷ (84 ∷ listed tag_text tags) ∷ (78 ∷ listed ref_text refs) ∷ [])
    (id_word (an_id Way z) body.id_is, (version_word version body.fits, (live_word, (tags_word tags body.texts, (refs_word refs are, tt)))))
    ∙ rw (object_back (an_id Way z) body.id_is, version_back version body.fits, tags_escapes tags, pairs_back tags, few_listed tag_of tag_text tags (tag_items tags) body.few, refs_back refs are, few_listed ref_of ref_text refs (ref_items refs are) few)
    (tags_line (an_id Way z) version tags (tags_from tags) None refs [] (tags_back tags body.rising))

relation_back : (z : ℤ) (version : ℕ) (tags : List Tag) (members : List Member) → IsBody (an_id Relation z) version tags
    → AllByRecursion (λ m. IsId m.target) members → AllByRecursion (λ m. IsUtf8 m.role) members → length members ≤ 65535
    → line_of (row_text (an_entity (an_id Relation z) version tags None [] members)) ≡ Some (Live (an_entity (an_id Relation z) version tags None [] members))
unfolding letter_of gone_of
relation_back z version tags members body are texts few =
    ap line_of (row_words (an_entity (an_id Relation z) version tags None [] members) (77 ∷ listed member_text members) [] refl)
    ∙ line_of-spaced (id_text (an_id Relation z)) ((118 ∷ printed version) ∷ (100 ∷ 86 ∷ []) ∷ (84 ∷ listed tag_text tags) ∷ (77 ∷ listed member_text members) ∷ [])
    (id_word (an_id Relation z) body.id_is, (version_word version body.fits, (live_word, (tags_word tags body.texts, (members_word members are texts, tt)))))
    ∙ rw (object_back (an_id Relation z) body.id_is, version_back version body.fits, tags_escapes tags, pairs_back tags, few_listed tag_of tag_text tags (tag_items tags) body.few, members_escapes members are, members_back members are, few_listed member_of member_text members (member_items members are) few)
    (tags_line (an_id Relation z) version tags (tags_from tags) None [] members (tags_back tags body.rising))

-- The canonical line of a good object spells that object.
pub row_back : CanonicalLaw
row_back e good texts fits =
    one e.id.kind e.id.number e.version e.tags e.place e.refs e.members good.parts (record { id_is = good.id; fits = fits; rising = good.tags; few = good.few_tags; texts = texts.tags }) good.place good.refs good.few_refs good.members texts.roles good.few_members
  where
    one : (k : Kind) (z : ℤ) (version : ℕ) (tags : List Tag) (place : Option Point) (refs : List ℤ) (members : List Member) → HasParts k place refs members → IsBody (an_id k z) version tags
        → IfSome place IsInGrid → AllByRecursion (λ n. unsigned_abs n ≤ 2 ^ 48) refs → length refs ≤ 65535
        → AllByRecursion (λ m. IsId m.target) members → AllByRecursion (λ m. IsUtf8 m.role) members → length members ≤ 65535
        → line_of (row_text (an_entity (an_id k z) version tags place refs members)) ≡ Some (Live (an_entity (an_id k z) version tags place refs members))
    one Node z version tags None refs members parts body within are few are_members roles few_members =
        let no_refs : refs ≡ [] = parts.0 in
        let no_members : members ≡ [] = parts.1 in
        rw (no_refs, no_members) (node_without z version tags body)
    one Node z version tags (Some p) refs members parts body within are few are_members roles few_members =
        let no_refs : refs ≡ [] = parts.0 in
        let no_members : members ≡ [] = parts.1 in
        rw (no_refs, no_members) (node_with z version tags p body within)
    one Way z version tags place refs members parts body within are few are_members roles few_members =
        let no_place : place ≡ None = parts.0 in
        let no_members : members ≡ [] = parts.1 in
        rw (no_place, no_members) (way_back z version tags refs body are few)
    one Relation z version tags place refs members parts body within are few are_members roles few_members =
        let no_place : place ≡ None = parts.0 in
        let no_refs : refs ≡ [] = parts.1 in
        rw (no_place, no_refs) (relation_back z version tags members body are_members roles few_members)

-- No control byte stands in such a line, and it begins with a letter.

abbrev ArePrintable : List ℕ → Type 0
ArePrintable bytes = AllByRecursion (λ c. 32 ≤ c) bytes

printable : (bytes : List ℕ) → AreVisible bytes → ArePrintable bytes
printable bytes all = all_weaker (λ c. 33 ≤ c) (λ c. 32 ≤ c) (λ c is. omega arith) bytes all

place_printable : (place : Option Point) → IfSome place IsInGrid → ArePrintable (place_text place)
place_printable None within = (omega arith, (omega arith, (omega arith, (omega arith, tt))))
place_printable (Some p) within =
    let wide : unsigned_abs (longitude p) ≤ 1800000000 = longitude_within p within in
    let tall : unsigned_abs (latitude p) ≤ 900000000 = latitude_within p within in
    let across = printable (120 ∷ degrees_text (longitude p)) (degrees_word 120 (longitude p) (omega arith) (omega arith) wide).word_is.visible in
    let down = printable (121 ∷ degrees_text (latitude p)) (degrees_word 121 (latitude p) (omega arith) (omega arith) (omega arith)).word_is.visible in
    all_append (λ c. 32 ≤ c) (codes " x" ++ degrees_text (longitude p) ++ codes " y") (degrees_text (latitude p))
    (all_append (λ c. 32 ≤ c) (codes " x" ++ degrees_text (longitude p)) (codes " y") (omega arith, across) (omega arith, (omega arith, tt))) down.1

parts_printable : (k : Kind) (e : Entity) → IsGood e → HasTexts e → ArePrintable (parts_text k e)
parts_printable Node e good texts = place_printable e.place good.place
parts_printable Way e good texts = (omega arith, printable (78 ∷ listed ref_text e.refs) (refs_word e.refs good.refs).word_is.visible)
parts_printable Relation e good texts = (omega arith, printable (77 ∷ listed member_text e.members) (members_word e.members good.members texts.roles).word_is.visible)

pub row_printable : (e : Entity) → IsGood e → HasTexts e → e.version < 2 ^ 32 → AllByRecursion (λ c. 32 ≤ c) (row_text e)
unfolding row_text
row_printable e good texts fits =
    let id = printable (id_text e.id) (id_word e.id good.id).word_is.visible in
    let version = printable (118 ∷ printed e.version) (version_word e.version fits).word_is.visible in
    let tags = printable (84 ∷ listed tag_text e.tags) (tags_word e.tags texts.tags).word_is.visible in
    let p : ℕ → Type 0 = (λ c. 32 ≤ c) in
    all_append p (id_text e.id ++ codes " v" ++ printed e.version ++ codes " dV T" ++ listed tag_text e.tags) (parts_text e.id.kind e)
    (all_append p (id_text e.id ++ codes " v" ++ printed e.version ++ codes " dV T") (listed tag_text e.tags)
    (all_append p (id_text e.id ++ codes " v" ++ printed e.version) (codes " dV T")
    (all_append p (id_text e.id ++ codes " v") (printed e.version)
    (all_append p (id_text e.id) (codes " v") id (omega arith, (omega arith, tt)))
    version.1) (omega arith, (omega arith, (omega arith, (omega arith, (omega arith, tt)))))) tags.1)
    (parts_printable e.id.kind e good texts)

pub row_unskipped : (e : Entity) → is_skipped (row_text e) ≡ false
unfolding row_text id_text
row_unskipped e =
    one e.id.kind (signed_decimal e.id.number ++ codes " v" ++ printed e.version ++ codes " dV T" ++ listed tag_text e.tags ++ parts_text e.id.kind e)
  where
    one : (k : Kind) (rest : List ℕ) → is_skipped (kind_letter k ∷ rest) ≡ false
    one Node rest = refl
    one Way rest = refl
    one Relation rest = refl
