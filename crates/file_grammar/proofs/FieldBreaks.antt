-- Where the next field is not read, one of the six causes stands there.
use Rattle.std.proofs.Common.{◌≡◌, ◌≢◌, ◌⊎◌, inl, inr, ℕ, ◌+◌, ◌-◌, ◌%◌, Bool, true, false, cond, List, [], ◌∷◌, length, Option, Result, Ok, Err, refl, sym, ap, subst, ◌∙◌, arith}
use Rattle.std.specs.Prelude.{◌==◌, nat_lt, slice_range}
use Rattle.std.proofs.lemmas.Bool.{eqb-true, eq-eqb, ltb-true, lt-ltb, ne_eqb}
use Rattle.obf_wire.specs.declared.breaks.WireBreak.{WireBreak}
use Rattle.obf_wire.specs.declared.field.Field.{Field}
use Rattle.obf_wire.specs.Varint.{IsSpelledAt, placed_at, short_at, long_at, varint_at}
use Rattle.obf_wire.specs.Fields.{Window, IsWindow, bad_key_at, content_at, field_at, filled, is_among, keyed, length_at, over_end_at, payload_len, ◌>>=◌}
use Rattle.obf_wire.proofs.Places.{Found, found_at, long_iff, only_at, short_iff}
use Rattle.obf_wire.proofs.Spellings.{begins_only, three}
use Rattle.file_grammar.specs.FormBreaks.{IsFieldBreak, IsNoLength, IsNoNumber}
use Rattle.file_grammar.proofs.Inside.{chosen, number_inside}

abbrev got : ℕ × ℕ → Result (ℕ × ℕ) WireBreak
got x = Ok x

abbrev broke : WireBreak → Result (ℕ × ℕ) WireBreak
broke b = Err b

abbrev none_read : WireBreak → Result (Option Field) WireBreak
none_read b = Err b

abbrev some_read : Option Field → Result (Option Field) WireBreak
some_read x = Ok x

broke_is : (a b : WireBreak) → broke a ≡ broke b → a ≡ b
broke_is a b e = cc

none_is : (a b : WireBreak) → none_read a ≡ none_read b → a ≡ b
none_is a b e = cc

not_equal : (a b : ℕ) → (a == b) ≡ false → a ≢ b
not_equal a b e same = let t : true ≡ false = sym (eq-eqb a b same) ∙ e in absurd cc

no_items : (xs : List ℕ) → (length xs == 0) ≡ true → xs ≡ []
no_items [] e = refl
no_items (x ∷ xs) e = let none : length (x ∷ xs) ≡ 0 = eqb-true (length (x ∷ xs)) 0 e in absurd (omega (arith, none))

some_items : (xs : List ℕ) → (length xs == 0) ≡ false → xs ≢ []
some_items [] e same = absurd cc
some_items (x ∷ xs) e same = absurd cc

no_number : (bytes : List ℕ) (at end : ℕ) (b : WireBreak) → varint_at bytes at end ≡ broke b → IsNoNumber bytes at end b
no_number bytes at end b e = elim (three (slice_range bytes at end)) [
  | inl s ↦
      let read = ap (placed_at at) (begins_only (slice_range bytes at end) s.0.0 s.0.1 s.0.2) in
      let both : got (s.0.0, at + s.0.1) ≡ broke b = sym read ∙ e in
      absurd cc
  | inr r ↦ elim r [
    | inl c ↦ inl (c.1, broke_is b (short_at at) (sym e ∙ (short_iff bytes at end).1 c.1))
    | inr o ↦ inr (o.2, broke_is b (long_at at) (sym e ∙ (long_iff bytes at end).1 o.2))
  ]
]

no_content : (bytes : List ℕ) (key at end : ℕ) (b : WireBreak) → content_at bytes key at end ≡ broke b → ((key % 8 ≡ 6) × IsNoLength at end b) ⊎ ((key % 8 ≢ 6) × IsNoNumber bytes at end b)
no_content bytes key at end b e = elim (chosen (key % 8 == 6) (length_at bytes at end) (varint_at bytes at end) (broke b) e) [
  | inl c ↦ elim (chosen (nat_lt (end - at) 8) _ _ (broke b) c.1) [
    | inl d ↦ inl (eqb-true (key % 8) 6 c.0, (ltb-true (end - at) 8 d.0, broke_is b (short_at at) (sym d.1)))
    | inr d ↦ absurd cc
  ]
  | inr c ↦ inr (not_equal (key % 8) 6 c.0, no_number bytes at end b c.1)
]

module _ (w : Window) (allowed : List ℕ) (may_end : Bool) (b : WireBreak) where
  past_end : (key next value from : ℕ) → IsSpelledAt w.bytes w.place w.end key next → is_among allowed key ≡ true → content_at w.bytes key next w.end ≡ got (value, from) → filled w.place key w.end (value, from) ≡ none_read b
      → IsFieldBreak w allowed may_end b
  past_end key next value from spelled among content e = elim (chosen (nat_lt (w.end - from) (payload_len key value)) _ _ (none_read b) e) [
    | inl c ↦ inr (inr (inr (inr (inr (record { key = key; next = next; value = value; from = from; spelled = spelled; among = among; content = content; longer = ltb-true (w.end - from) (payload_len key value) c.0; is = none_is b (over_end_at w.place) (sym c.1) })))))
    | inr c ↦ absurd cc
  ]

  behind_key : (key next : ℕ) (r : Result (ℕ × ℕ) WireBreak) → IsSpelledAt w.bytes w.place w.end key next → is_among allowed key ≡ true → content_at w.bytes key next w.end ≡ r → (r >>= filled w.place key w.end) ≡ none_read b
      → IsFieldBreak w allowed may_end b
  behind_key key next (Err x) spelled among is e =
      inr (inr (inr (inr (inl (record { key = key; next = next; spelled = spelled; among = among; none = no_content w.bytes key next w.end b (is ∙ ap broke (none_is x b e)) })))))
  behind_key key next (Ok (value, from)) spelled among is e = past_end key next value from spelled among is e

  at_key : (r : Result (ℕ × ℕ) WireBreak) → IsWindow w → w.place ≢ w.end → allowed ≢ [] → varint_at w.bytes w.place w.end ≡ r → (r >>= keyed w.bytes w.place w.end allowed) ≡ none_read b → IsFieldBreak w allowed may_end b
  at_key (Err x) window left some is e = inr (inr (inl (record { left = left; some = some; number = no_number w.bytes w.place w.end b (is ∙ ap broke (none_is x b e)) })))
  at_key (Ok (key, next)) window left some is e =
      let spelled : IsSpelledAt w.bytes w.place w.end key next = subst (Found w.bytes w.place w.end) is (found_at w.bytes w.place w.end window.ordered window.within) in
      elim (chosen (is_among allowed key) _ _ (none_read b) e) [
        | inl c ↦ behind_key key next (content_at w.bytes key next w.end) spelled c.0 refl c.1
        | inr c ↦ inr (inr (inr (inl (record { key = key; next = next; spelled = spelled; other = c.0; is = none_is b (bad_key_at w.place) (sym c.1) }))))
      ]

  pub field_breaks : IsWindow w → field_at w allowed may_end ≡ none_read b → IsFieldBreak w allowed may_end b
  unfolding field_at
  field_breaks window e = elim (chosen (w.place == w.end) _ _ (none_read b) e) [
    | inl c ↦ elim (chosen may_end _ _ (none_read b) c.1) [
      | inl d ↦ absurd cc
      | inr d ↦ inl (record { here = eqb-true w.place w.end c.0; more = d.0; is = none_is b (short_at w.end) (sym d.1) })
    ]
    | inr c ↦ elim (chosen (length allowed == 0) _ _ (none_read b) c.1) [
      | inl d ↦ inr (inl (record { left = not_equal w.place w.end c.0; none = no_items allowed d.0; is = none_is b (bad_key_at w.place) (sym d.1) }))
      | inr d ↦ at_key (varint_at w.bytes w.place w.end) window (not_equal w.place w.end c.0) (some_items allowed d.0) refl d.1
    ]
  ]

-- ---- the other way: where a cause stands, no field is read

none_number : (bytes : List ℕ) (at end : ℕ) (b : WireBreak) → IsNoNumber bytes at end b → varint_at bytes at end ≡ broke b
none_number bytes at end b (inl c) = (short_iff bytes at end).1 c.0 ∙ ap broke (sym c.1)
none_number bytes at end b (inr o) = (long_iff bytes at end).1 o.0 ∙ ap broke (sym o.1)

none_content : (bytes : List ℕ) (key at end : ℕ) (b : WireBreak) → ((key % 8 ≡ 6) × IsNoLength at end b) ⊎ ((key % 8 ≢ 6) × IsNoNumber bytes at end b) → content_at bytes key at end ≡ broke b
none_content bytes key at end b (inl c) =
    let wide : (key % 8 == 6) ≡ true = eq-eqb (key % 8) 6 c.0 in
    let few : nat_lt (end - at) 8 ≡ true = lt-ltb (end - at) 8 c.1.0 in
    let is : b ≡ short_at at = c.1.1 in
    rw (wide, few, is) refl
none_content bytes key at end b (inr c) =
    let wide : (key % 8 == 6) ≡ false = ne_eqb (key % 8) 6 c.0 in
    let none = none_number bytes at end b c.1 in
    rw (wide, none) refl

keys_left : (keys : List ℕ) (key : ℕ) → is_among keys key ≡ true → (length keys == 0) ≡ false
keys_left [] key e = absurd cc
keys_left (k ∷ keys) key e = ne_eqb (length (k ∷ keys)) 0 (λ same. absurd (omega (arith, same)))

items_left : (keys : List ℕ) → keys ≢ [] → (length keys == 0) ≡ false
items_left [] some = absurd (some refl)
items_left (k ∷ keys) some = ne_eqb (length (k ∷ keys)) 0 (λ same. absurd (omega (arith, same)))

module _ (w : Window) (allowed : List ℕ) (may_end : Bool) (b : WireBreak) (window : IsWindow w) where
  abbrev key_read : ℕ → ℕ → Type 0
  key_read key next = (varint_at w.bytes w.place w.end ≡ got (key, next)) × ((w.place == w.end) ≡ false)

  key_is : (key next : ℕ) → IsSpelledAt w.bytes w.place w.end key next → key_read key next
  key_is key next spelled =
      let read = only_at w.bytes w.place w.end key next window.ordered window.within spelled in
      let inside = number_inside w.bytes w.place w.end key next window.ordered window.within read in
      (read, ne_eqb w.place w.end (λ same. absurd (omega (arith, same, inside.0, inside.1))))

  -- whether or not any key may come
  other_stops : (none : Bool) → cond none (none_read (bad_key_at w.place)) (none_read (bad_key_at w.place)) ≡ none_read (bad_key_at w.place)
  other_stops true = refl
  other_stops false = refl

  pub field_stops : IsFieldBreak w allowed may_end b → field_at w allowed may_end ≡ none_read b
  unfolding field_at
  field_stops (inl c) =
      let here : (w.place == w.end) ≡ true = eq-eqb w.place w.end c.here in
      rw (here, c.more, c.is) refl
  field_stops (inr (inl c)) =
      let left : (w.place == w.end) ≡ false = ne_eqb w.place w.end c.left in
      rw (left, c.none, c.is) refl
  field_stops (inr (inr (inl c))) =
      let left : (w.place == w.end) ≡ false = ne_eqb w.place w.end c.left in
      let some = items_left allowed c.some in
      let none = none_number w.bytes w.place w.end b c.number in
      rw (left, some, none) refl
  field_stops (inr (inr (inr (inl c)))) =
      let k = key_is c.key c.next c.spelled in
      rw (k.1, k.0, c.other, c.is) (other_stops (length allowed == 0))
  field_stops (inr (inr (inr (inr (inl c))))) =
      let k = key_is c.key c.next c.spelled in
      let some = keys_left allowed c.key c.among in
      let none = none_content w.bytes c.key c.next w.end b c.none in
      rw (k.1, some, k.0, c.among, none) refl
  field_stops (inr (inr (inr (inr (inr c))))) =
      let k = key_is c.key c.next c.spelled in
      let some = keys_left allowed c.key c.among in
      let longer : nat_lt (w.end - c.from) (payload_len c.key c.value) ≡ true = lt-ltb (w.end - c.from) (payload_len c.key c.value) c.longer in
      rw (k.1, some, k.0, c.among, c.content, longer, c.is) refl
