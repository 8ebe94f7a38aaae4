-- Fields that are begun, filled and ended: the length is put in its room.
use Rattle.std.proofs.Common.{◌≡◌, ℕ, ◌+◌, ◌-◌, ◌*◌, ◌%◌, ◌<◌, ◌≤◌, Bool, false, cond, List, [], ◌∷◌, ◌++◌, length, take, drop, set, refl, sym, ap, ◌∙◌, arith, append_assoc, length-append}
use Rattle.std.specs.Prelude.{◌==◌}
use Rattle.std.specs.Int.{w64, to_be_bytes}
use Rattle.std.proofs.lemmas.Bool.Decides.{nat_tests}
use Rattle.std.proofs.lemmas.List.{append-nil, take_all, drop_all, take-append-drop}
use Rattle.std.proofs.Math.Seq.{set-append_seam, take-append_seam, drop-append_seam}
use Rattle.std.proofs.lemmas.Slice.{take-put_mid, drop-put_mid}
use borrow.Rule.Slice.PartMut.{put_mid}
use Rattle.obf_wire.specs.Varint.{varint}
use Rattle.obf_wire.specs.Fields.{content, short_field, section, begun_short, begun_section}
use Rattle.obf_wire.proofs.Writing.{varint-small}

-- ---- lengths as numbers

is_short : (number : ℕ) → ((number * 8 + 2) % 8 == 6) ≡ false
is_short number = grind (arith, nat_tests)

short_content : (number value : ℕ) → content (number * 8 + 2) value ≡ varint value
short_content number value = ap (λ (b : Bool). cond b (to_be_bytes w64 value) (varint value)) (is_short number)

-- the bytes from the room on
opened : (number : ℕ) (before payload all : List ℕ) → all ≡ (before ++ begun_short number) ++ payload → all ≡ (before ++ varint (number * 8 + 2)) ++ 0 ∷ payload
opened number before payload all is =
    is ∙ ap (λ (t : List ℕ). t ++ payload) (sym (append_assoc before (varint (number * 8 + 2)) (0 ∷ []))) ∙ append_assoc (before ++ varint (number * 8 + 2)) (0 ∷ []) payload

room_at : (number start : ℕ) (before : List ℕ) → start ≡ length (before ++ begun_short number) → start ≡ length (before ++ varint (number * 8 + 2)) + 1
room_at number start before is =
    is ∙ ap length (sym (append_assoc before (varint (number * 8 + 2)) (0 ∷ []))) ∙ length-append (before ++ varint (number * 8 + 2)) (0 ∷ [])

-- the field that a length makes of them
filled : (number : ℕ) (before payload : List ℕ) → (before ++ varint (number * 8 + 2)) ++ (varint (length payload) ++ payload) ≡ before ++ short_field number payload
filled number before payload =
    let key : List ℕ = varint (number * 8 + 2) in
    append_assoc before key (varint (length payload) ++ payload)
    ∙ ap (λ (t : List ℕ). before ++ t) (sym (append_assoc key (varint (length payload)) payload))
    ∙ ap (λ (t : List ℕ). before ++ ((key ++ t) ++ payload)) (sym (short_content number (length payload)))

behind_room : (front payload : List ℕ) → drop (length front + 1) (front ++ 0 ∷ payload) ≡ payload
behind_room front payload =
    let long : length front + 1 ≡ length (front ++ 0 ∷ []) = sym (length-append front (0 ∷ [])) in
    ap (λ (n : ℕ). drop n (front ++ 0 ∷ payload)) long
    ∙ ap (drop (length (front ++ 0 ∷ []))) (sym (append_assoc front (0 ∷ []) payload))
    ∙ drop-append_seam (front ++ 0 ∷ []) payload

-- a length of one byte takes the place of the room
pub short_ended : (start len number : ℕ) (all before payload : List ℕ) → len ≡ length all → len - start < 128 → all ≡ (before ++ begun_short number) ++ payload → start ≡ length (before ++ begun_short number)
    → set all (start - 1) (len - start) ≡ before ++ short_field number payload
short_ended start len number all before payload long few is at =
    let front : List ℕ = before ++ varint (number * 8 + 2) in
    let from_room = opened number before payload all is in
    let room = room_at number start before at in
    let whole = ap length from_room ∙ length-append front (0 ∷ payload) in
    let size : len - start ≡ length payload = omega arith in
    let place : start - 1 ≡ length front = omega arith in
    ap (λ (n : ℕ). set all n (len - start)) place
    ∙ ap (λ (t : List ℕ). set t (length front) (len - start)) from_room
    ∙ set-append_seam front 0 payload (len - start)
    ∙ ap (λ (n : ℕ). front ++ n ∷ payload) size
    ∙ ap (λ (t : List ℕ). front ++ (t ++ payload)) (sym (varint-small (length payload) (omega arith)))
    ∙ filled number before payload

-- a longer one is put there, and the payload after it
pub long_ended : (start number : ℕ) (all before payload new : List ℕ) → new ≡ take (start - 1) all ++ varint (length all - start) ++ drop start all → all ≡ (before ++ begun_short number) ++ payload
    → start ≡ length (before ++ begun_short number) → new ≡ before ++ short_field number payload
long_ended start number all before payload new made is at =
    let front : List ℕ = before ++ varint (number * 8 + 2) in
    let from_room = opened number before payload all is in
    let room = room_at number start before at in
    let whole = ap length from_room ∙ length-append front (0 ∷ payload) in
    let size : length all - start ≡ length payload = omega arith in
    let place : start - 1 ≡ length front = omega arith in
    let first : take (start - 1) all ≡ front = ap (λ (n : ℕ). take n all) place ∙ ap (take (length front)) from_room ∙ take-append_seam front (0 ∷ payload) in
    let last : drop start all ≡ payload = ap (λ (n : ℕ). drop n all) room ∙ ap (drop (length front + 1)) from_room ∙ behind_room front payload in
    made
    ∙ ap (λ (t : List ℕ). (t ++ varint (length all - start)) ++ drop start all) first
    ∙ ap (λ (n : ℕ). (front ++ varint n) ++ drop start all) size
    ∙ ap (λ (t : List ℕ). (front ++ varint (length payload)) ++ t) last
    ∙ append_assoc front (varint (length payload)) payload
    ∙ filled number before payload

-- ---- lengths in eight bytes

eight : (n : ℕ) → length (to_be_bytes w64 n) ≡ 8
eight n = refl

-- what a part of the bytes became, and all others as they were
part_put : (at k n : ℕ) (xs part : List ℕ) → length part ≡ k → n ≡ at + k → n ≤ length xs → put_mid at k xs part ≡ (take at xs ++ part) ++ drop n xs
part_put at k n xs part long next within =
    sym (take-append-drop n (put_mid at k xs part))
    ∙ ap (λ (t : List ℕ). t ++ drop n (put_mid at k xs part)) (take-put_mid at k xs part n (omega arith) (omega arith))
    ∙ ap (λ (t : List ℕ). (take at xs ++ part) ++ t) (drop-put_mid at k xs part n (omega arith) (omega arith) long)

whole_put : (len : ℕ) (items now : List ℕ) → len ≡ length items → length now ≡ length items → take len (now ++ drop (length now) items) ≡ now
whole_put len items now long same =
    ap (λ (t : List ℕ). take len (now ++ t)) (drop_all (length now) items (omega arith)) ∙ ap (take len) (append-nil now) ∙ take_all len now (omega arith)

pub section_ended : (start k len size number : ℕ) (items held part before payload : List ℕ) → held ≡ items → len ≡ length items → k ≡ 8 → size ≡ length items → part ≡ to_be_bytes w64 (size - start) → items ≡ (before ++ begun_section number) ++ payload
    → start ≡ length (before ++ begun_section number) → take len (put_mid (start - 8) k held part ++ drop (length (put_mid (start - 8) k held part)) items) ≡ before ++ section number payload
section_ended start k len size number items held part before payload same long room sized filled_in is at =
    let key : List ℕ = varint (number * 8 + 6) in
    let front : List ℕ = before ++ key in
    let eight_part : length part ≡ 8 = ap length filled_in ∙ eight (size - start) in
    let from_room : items ≡ front ++ (to_be_bytes w64 0 ++ payload) =
    is ∙ ap (λ (t : List ℕ). t ++ payload) (sym (append_assoc before key (to_be_bytes w64 0))) ∙ append_assoc front (to_be_bytes w64 0) payload in
    let start_is : start ≡ length front + 8 = at ∙ ap length (sym (append_assoc before key (to_be_bytes w64 0))) ∙ length-append front (to_be_bytes w64 0) ∙ ap (λ (n : ℕ). length front + n) (eight 0) in
    let whole : length items ≡ start + length payload = ap length is ∙ length-append (before ++ begun_section number) payload ∙ ap (λ (n : ℕ). n + length payload) (sym at) in
    let put : put_mid (start - 8) k held part ≡ (take (start - 8) held ++ part) ++ drop start held = part_put (start - 8) k start held part (omega arith) (omega arith) (omega (arith, ap length same)) in
    let first : take (start - 8) held ≡ front =
    ap (λ (n : ℕ). take n held) (omega arith) ∙ ap (take (length front)) (same ∙ from_room) ∙ take-append_seam front (to_be_bytes w64 0 ++ payload) in
    let last : drop start held ≡ payload = ap (λ (n : ℕ). drop n held) at ∙ ap (drop (length (before ++ begun_section number))) (same ∙ is) ∙ drop-append_seam (before ++ begun_section number) payload in
    let of_payload : size - start ≡ length payload = omega arith in
    let all : put_mid (start - 8) k held part ≡ (front ++ to_be_bytes w64 (length payload)) ++ payload =
    put ∙ ap (λ (t : List ℕ). (t ++ part) ++ drop start held) first ∙ ap (λ (t : List ℕ). (front ++ part) ++ t) last ∙ ap (λ (t : List ℕ). (front ++ t) ++ payload) (filled_in ∙ ap (to_be_bytes w64) of_payload) in
    let same_length : length (put_mid (start - 8) k held part) ≡ length items =
    omega (arith, ap length all, length-append (front ++ to_be_bytes w64 (length payload)) payload, length-append front (to_be_bytes w64 (length payload)), eight (length payload)) in
    whole_put len items (put_mid (start - 8) k held part) long same_length ∙ all ∙ ap (λ (t : List ℕ). t ++ payload) (append_assoc before key (to_be_bytes w64 (length payload))) ∙ append_assoc before (key ++ to_be_bytes w64 (length payload)) payload
