-- Addresses of a block that are asked, one after another.
use Rattle.std.proofs.Common.{◌≡◌, ℕ, ◌+◌, Bool, List, [], ◌∷◌, ◌++◌, filter_map, length, Option, Some, None, Ok, refl, sym, ap, subst, ◌∙◌, arith, append_assoc, length-append}
use Rattle.std.specs.Prelude.{◌&&◌, ◌==◌, not}
use Rattle.std.specs.List.{list_all}
use Rattle.std.specs.Option.{option_or}
use Rattle.std.specs.Str.{is_utf8}
use Rattle.std.proofs.lemmas.List.{append-nil}
use Rattle.live_model.specs.Records.{is_empty}
use Rattle.obf_wire.specs.declared.field.Field.{Field}
use Rattle.obf_wire.specs.declared.file.FileBreak.{FileBreak}
use Rattle.obf_wire.specs.declared.file.FileKind.TheVariants.{BadText, BadOrder, BadId, BadRef, BadPoint, BadMark}
use Rattle.obf_wire.specs.Fields.{Window}
use Rattle.coord_delta.specs.Steps.{places}
use Rattle.file_grammar.specs.declared.parts.Content.{Content}
use Rattle.file_grammar.specs.declared.parts.Content.TheVariants.{Message}
use Rattle.file_grammar.specs.declared.parts.Part.{Part}
use Rattle.file_grammar.specs.declared.parts.Part.TheVariants.{Address as AddressPart, KeyedBlock as BlockPart}
use Rattle.file_grammar.specs.declared.parts.Version.{Version}
use Rattle.file_grammar.specs.AddressRules.{Address, address_facts, address_with, addresses_rise, first_of, is_addressed, is_key_of, is_kind_in, is_number_for, lang_facts, last_of}
use Rattle.file_grammar.specs.BoxRules.{Beside, follows, is_marked, is_on_grid, is_ordinal}
use Rattle.file_grammar.specs.Facts.{Fact, earlier, fact, failing, first_failing}
use Rattle.file_grammar.specs.Messages.{Fields, ends, has_number, has_bytes, has_numbers, has_message}
use Rattle.file_grammar.specs.Readings.{message_at, payload_of}
use Rattle.file_grammar.specs.RecordRules.{is_one_location}
use Rattle.file_grammar.specs.Sections.{Placed, messages_in, placed}
use Rattle.file_grammar.specs.Tables.{content_of}
use Rattle.file_grammar.specs.Walks.{HoldsMessage, IsNext, Standing, left_in}
use Rattle.file_grammar.proofs.Earlier.{and_more, and_one, earlier_none}
use Rattle.file_grammar.proofs.Shaped.{AreMessages, are_messages, shaped}
use Rattle.addr_section.specs.declared.addresses.AddressSeen.{AddressSeen}
use Rattle.addr_section.specs.declared.addresses.SortKey.{SortKey}
use Rattle.addr_section.specs.declared.block_rules.BlockSeen.{BlockSeen}
use Rattle.addr_section.specs.declared.addresses.TextSeen.{TextSeen}
use Rattle.addr_section.proofs.SortKeys.{or_key}
use Rattle.addr_section.specs.Asked.{IsAddressAsked, IsBlockAsked, all_facts}
use Rattle.addr_section.specs.Kept.{addresses_within}
use Rattle.addr_section.specs.Seen.{IsRead, IsSortKeyOf, address_of, lang_of, lang_seen, may_follow, seen_facts, sort_key}

-- what may follow by the same
pub follows_same : (before : Option SortKey) (a b : SortKey) → a ≡ b → may_follow before a ≡ may_follow before b
follows_same before a b e = ap (may_follow before) e

-- facts asked one after another, and then others
pub asked_nine : (s a b c d e f g h new : Option FileBreak) (f1 f2 f3 f4 f5 f6 f7 f8 : Fact) (more : List Fact) → a ≡ earlier s (failing f1) → b ≡ earlier a (failing f2) → c ≡ earlier b (failing f3) → d ≡ earlier c (failing f4) → e ≡ earlier d (failing f5)
    → f ≡ earlier e (failing f6) → g ≡ earlier f (failing f7) → h ≡ earlier g (failing f8) → new ≡ earlier h (first_failing more) → new ≡ earlier s (first_failing (f1 ∷ f2 ∷ f3 ∷ f4 ∷ f5 ∷ f6 ∷ f7 ∷ f8 ∷ more))
asked_nine s a b c d e f g h new f1 f2 f3 f4 f5 f6 f7 f8 more pa pb pc pd pe pf pg ph pn =
    and_one s a new f1 (f2 ∷ f3 ∷ f4 ∷ f5 ∷ f6 ∷ f7 ∷ f8 ∷ more) pa (and_one a b new f2 (f3 ∷ f4 ∷ f5 ∷ f6 ∷ f7 ∷ f8 ∷ more) pb (and_one b c new f3 (f4 ∷ f5 ∷ f6 ∷ f7 ∷ f8 ∷ more) pc
    (and_one c d new f4 (f5 ∷ f6 ∷ f7 ∷ f8 ∷ more) pd (and_one d e new f5 (f6 ∷ f7 ∷ f8 ∷ more) pe (and_one e f new f6 (f7 ∷ f8 ∷ more) pf (and_one f g new f7 (f8 ∷ more) pg (and_one g h new f8 more ph pn)))))))

module _ (houses : Bool) (beside : Beside) where
  -- ---- one address

  lang_same : (kind : ℕ) (lang : Option TextSeen) → lang_seen kind lang ≡ lang_facts kind (lang_of lang)
  lang_same kind None = refl
  lang_same kind (Some lang) = refl

  order_same : (before : Option SortKey) (prev : Option Address) (a : Address) (key : SortKey) → IsSortKeyOf before prev → key.key.now ≡ a.key.value → key.kind ≡ a.kind.value → key.ordinal ≡ a.ordinal.value
      → may_follow before key ≡ follows addresses_rise (prev, a)
  order_same None None a key is k d o = refl
  order_same None (Some p) a key is k d o = absurd is
  order_same (Some b) None a key is k d o = absurd is
  order_same (Some b) (Some p) a key is k d o = rw (is.0, is.1, is.2, k, d, o) refl

  -- the facts by what depends on the order, the points and the language
  abbrev facts_by : AddressSeen → Bool → Bool → List Fact → List Fact
  facts_by s follows one langs =
      fact s.at BadOrder follows
      ∷ fact s.ordinal.at BadId (is_ordinal s.ordinal.value && is_addressed s.kind.value s.ordinal.value)
      ∷ fact s.ordinal.at BadMark (is_marked beside.marks s.ordinal.value)
      ∷ fact s.kind.at BadRef (is_kind_in houses s.kind.value)
      ∷ fact s.key.at BadText (is_key_of s.name.text.now s.key.text.now)
      ∷ fact s.name.at BadText (is_utf8 s.name.text.now && not (is_empty s.name.text.now))
      ∷ fact s.number.at BadText (is_number_for s.kind.value s.number.text.now)
      ∷ fact s.points_at BadPoint one
      ∷ langs

  -- the facts of an address as it was seen are its facts
  facts_seen : (before : Option SortKey) (prev : Option Address) (s : AddressSeen) (points : List ℕ) → IsSortKeyOf before prev → s.points.count ≡ length (places points) → s.points.on_grid ≡ list_all is_on_grid (places points)
      → seen_facts houses beside before s ≡ address_facts houses beside (prev, address_of s points)
  facts_seen before prev s points is count on_grid =
      let follows_it = follows addresses_rise (prev, address_of s points) in
      let one = is_one_location (places points) in
      let two : (s.points.on_grid && (s.points.count == 1)) ≡ one = rw (count, on_grid) refl in
      ap (λ (b : Bool). facts_by s b (s.points.on_grid && (s.points.count == 1)) (lang_seen s.kind.value s.lang)) (order_same before prev (address_of s points) (sort_key s) is refl refl refl)
      ∙ ap (λ (b : Bool). facts_by s follows_it b (lang_seen s.kind.value s.lang)) two
      ∙ ap (facts_by s follows_it one) (lang_same s.kind.value s.lang)

  pub address_asked : (prev : Option Address) (before : Option SortKey) (at : ℕ) (fields : Fields) (old new : Option FileBreak) (seen : AddressSeen) (key : SortKey) → IsRead at fields seen → IsSortKeyOf before prev → new ≡ earlier old (first_failing (seen_facts houses beside before seen))
      → key ≡ sort_key seen → IsAddressAsked houses beside prev at fields old new key
  address_asked prev before at fields old new seen key r is asked same = record {
    address = address_of seen r.points;
    is = r.is;
    key_is = (ap (λ (k : SortKey). k.key.now) same, ap (λ (k : SortKey). k.kind) same, ap (λ (k : SortKey). k.ordinal) same);
    asked = asked ∙ ap (λ (fs : List Fact). earlier old (first_failing fs)) (facts_seen before prev seen r.points is r.count r.on_grid);
  }

  -- ---- addresses of a block

  pub record AddressesLeft (version : Version) (prev : Option Address) (all : Fields) (start now : Option FileBreak) (seen : BlockSeen) (s : Standing) : Type 0 where
    pub passed : List Address
    pub rest : Fields
    pub left : left_in s ≡ Ok rest
    pub are : AreMessages 10 (AddressPart version) rest
    pub all_are : addresses_within all ≡ passed ++ addresses_within rest
    pub asked : earlier start (first_failing (all_facts houses beside prev (addresses_within all))) ≡ earlier now (first_failing (all_facts houses beside (option_or (last_of passed) prev) (addresses_within rest)))
    pub count : seen.count ≡ length passed
    pub first : IsSortKeyOf seen.first (first_of passed)
    pub last : IsSortKeyOf seen.last (last_of passed)

  pub addresses_begin : (version : Version) (prev : Option Address) (all : Fields) (start : Option FileBreak) (w : Window) (s : Standing) → s ≡ record { part = BlockPart version; last = None; window = w } → message_at (BlockPart version) w ≡ Ok all
      → AddressesLeft version prev all start start (record { count = 0; first = None; last = None }) s
  addresses_begin version prev all start w s is e = record {
    passed = [];
    rest = all;
    left = subst (λ (s : Standing). left_in s ≡ Ok all) (sym is) e;
    are = are_messages (BlockPart version) None 10 (AddressPart version) all refl refl refl (shaped (BlockPart version) w all e);
    all_are = refl;
    asked = refl;
    count = refl;
    first = tt;
    last = tt;
  }

  abbrev holds_part : Part → Option Content
  holds_part part = Some (Message part)

  address_part : (version : Version) (part : Part) → content_of (BlockPart version) 10 ≡ holds_part part → AddressPart version ≡ part
  address_part version part e = cc

  -- the address that a field holds
  held_address : (version : Version) (s : Standing) (f : Field) (inner : Fields) → s.part ≡ BlockPart version → f.key ≡ 10 → HoldsMessage s f inner → message_at (AddressPart version) (payload_of s.window.bytes f) ≡ Ok inner
  held_address version s f inner is key h =
      let c : content_of (BlockPart version) 10 ≡ holds_part h.part = subst (λ (p : Part). content_of p 10 ≡ holds_part h.part) is (subst (λ (k : ℕ). content_of s.part k ≡ holds_part h.part) key h.content) in
      subst (λ (p : Part). message_at p (payload_of s.window.bytes f) ≡ Ok inner) (sym (address_part version h.part c)) h.read

  kept_one : {A B : Type 0} (f : A → Option B) (x : A) (xs : List A) (y : B) → f x ≡ Some y → filter_map f (x ∷ xs) ≡ y ∷ filter_map f xs
  kept_one f x xs y e = rw e refl

  pub last_joined : (xs : List Address) (a : Address) → last_of (xs ++ a ∷ []) ≡ Some a
  last_joined [] a = refl
  last_joined (x ∷ []) a = refl
  last_joined (x ∷ y ∷ ys) a = last_joined (y ∷ ys) a

  pub first_joined_key : (first : Option SortKey) (key : SortKey) (xs : List Address) (a : Address) → IsSortKeyOf first (first_of xs) → IsSortKeyOf (Some key) (Some a) → IsSortKeyOf (option_or first (Some key)) (first_of (xs ++ a ∷ []))
  first_joined_key None key [] a is one = one
  first_joined_key None key (x ∷ xs) a is one = absurd is
  first_joined_key (Some k) key [] a is one = absurd is
  first_joined_key (Some k) key (x ∷ xs) a is one = is

  addresses_step : (version : Version) (prev : Option Address) (all : Fields) (start now new : Option FileBreak) (seen : BlockSeen) (key : SortKey) (s behind : Standing) (f : Field) (rest : Fields) (l : AddressesLeft version prev all start now seen s) → l.rest ≡ rest
      → s.part ≡ BlockPart version → IsNext s behind f rest
      → ((fields : Fields) → message_at (AddressPart version) (payload_of s.window.bytes f) ≡ Ok fields → IsAddressAsked houses beside (option_or (last_of l.passed) prev) f.at fields now new key)
      → AddressesLeft version prev all start new (record { count = seen.count + 1; first = option_or seen.first (Some key); last = Some key }) behind
  addresses_step version prev all start now new seen key s behind f ends l is part n one = absurd n
  addresses_step version prev all start now new seen key s behind f (has_number at k value rest) l is part n one = absurd (subst (AreMessages 10 (AddressPart version)) is l.are)
  addresses_step version prev all start now new seen key s behind f (has_bytes at k value rest) l is part n one = absurd (subst (AreMessages 10 (AddressPart version)) is l.are)
  addresses_step version prev all start now new seen key s behind f (has_numbers at k value rest) l is part n one = absurd (subst (AreMessages 10 (AddressPart version)) is l.are)
  addresses_step version prev all start now new seen key s behind f (has_message at k inner rest) l is part n one =
      let are = subst (AreMessages 10 (AddressPart version)) is l.are in
      let a = one inner (held_address version s f inner part (n.1 ∙ are.0) n.2) in
      let it : address_with at inner ≡ Some a.address = subst (λ (p : ℕ). address_with p inner ≡ Some a.address) n.0 a.is in
      let first : addresses_within l.rest ≡ a.address ∷ addresses_within rest =
      ap addresses_within is ∙ kept_one (λ (m : Placed Fields). address_with m.at m.value) (placed at inner) (messages_in rest) a.address it in
      let before : Option Address = option_or (last_of l.passed) prev in
      let after : option_or (last_of (l.passed ++ a.address ∷ [])) prev ≡ Some a.address = ap (λ (x : Option Address). option_or x prev) (last_joined l.passed a.address) in
      let more = all_facts houses beside (Some a.address) (addresses_within rest) in
      let longer = length-append l.passed (a.address ∷ []) in
      record {
        passed = l.passed ++ a.address ∷ [];
        rest = rest;
        left = n.3;
        are = are.2;
        all_are = l.all_are ∙ ap (λ (xs : List Address). l.passed ++ xs) first ∙ sym (append_assoc l.passed (a.address ∷ []) (addresses_within rest));
        asked =
            l.asked ∙ ap (λ (xs : List Address). earlier now (first_failing (all_facts houses beside before xs))) first
            ∙ sym (and_more now new (earlier new (first_failing more)) (address_facts houses beside (before, a.address)) more a.asked refl)
            ∙ ap (λ (x : Option Address). earlier new (first_failing (all_facts houses beside x (addresses_within rest)))) (sym after);
        count = omega (arith, l.count, longer);
        first = first_joined_key seen.first key l.passed a.address l.first a.key_is;
        last = subst (IsSortKeyOf (Some key)) (sym (last_joined l.passed a.address)) a.key_is;
      }

  -- the next of the addresses
  pub addresses_on : (version : Version) (prev : Option Address) (all : Fields) (start now new : Option FileBreak) (seen : BlockSeen) (before : Option SortKey) (key : SortKey) (s behind : Standing) (f : Field) → AddressesLeft version prev all start now seen s → IsSortKeyOf before prev
      → s.part ≡ BlockPart version → ((fields : Fields) → left_in s ≡ Ok fields → IsNext s behind f fields)
      → ((fields : Fields) (p : Option Address) → message_at (AddressPart version) (payload_of s.window.bytes f) ≡ Ok fields → IsSortKeyOf (option_or seen.last before) p → IsAddressAsked houses beside p f.at fields now new key)
      → AddressesLeft version prev all start new (record { count = seen.count + 1; first = option_or seen.first (Some key); last = Some key }) behind
  addresses_on version prev all start now new seen before key s behind f l was part next one =
      addresses_step version prev all start now new seen key s behind f l.rest l refl part (next l.rest l.left)
      (λ fields e. one fields (option_or (last_of l.passed) prev) e (or_key seen.last before (last_of l.passed) prev l.last was))

  -- all of them
  pub addresses_all : (version : Version) (prev : Option Address) (all : Fields) (start now : Option FileBreak) (seen : BlockSeen) (s : Standing) → AddressesLeft version prev all start now seen s
      → ((fields : Fields) → left_in s ≡ Ok fields → fields ≡ ends) → IsBlockAsked houses beside prev (addresses_within all) start now seen
  addresses_all version prev all start now seen s l last =
      let none : l.rest ≡ ends = last l.rest l.left in
      let are : addresses_within all ≡ l.passed = l.all_are ∙ ap (λ (r : Fields). l.passed ++ addresses_within r) none ∙ append-nil l.passed in
      record {
        asked = sym (l.asked ∙ ap (λ (r : Fields). earlier now (first_failing (all_facts houses beside (option_or (last_of l.passed) prev) (addresses_within r)))) none ∙ earlier_none now);
        count = l.count ∙ ap length (sym are);
        first = subst (λ (xs : List Address). IsSortKeyOf seen.first (first_of xs)) (sym are) l.first;
        last = subst (λ (xs : List Address). IsSortKeyOf seen.last (last_of xs)) (sym are) l.last;
      }
