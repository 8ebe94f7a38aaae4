-- What a buffer of tags holds, when it grows.
use Rattle.std.proofs.Common.{◌≡◌, ◌≤◌, ℕ, ◌+◌, ◌-◌, List, [], ◌∷◌, ◌++◌, length, take, drop, refl, ap, ◌∙◌, arith, length-drop}
use Rattle.std.proofs.Math.Seq.{take-length}
use Rattle.std.proofs.lemmas.List.{take-append-le, drop-append-le, drop-drop}
use Rattle.live_model.specs.declared.objects.Tag.{Tag}
use Rattle.opl_rows.specs.declared.held.Span.{Span}
use Rattle.opl_rows.specs.Held.{tag_at, tags_in, total, HeldTags}

-- a tag of a key and a value
abbrev pub made : List ℕ → List ℕ → Tag
made k v = record { key = k; value = v }

both : {k l v w : List ℕ} → k ≡ l → v ≡ w → made k v ≡ made l w
both {k} {l} {v} {w} e f = ap (λ x. made x v) e ∙ ap (made l) f

tag_more : (s : Span) (bytes more : List ℕ) → s.key + s.value ≤ length bytes → tag_at s (bytes ++ more) ≡ tag_at s bytes
tag_more s bytes more near =
    let left = length-drop s.key bytes in
    let k : take s.key (bytes ++ more) ≡ take s.key bytes = take-append-le s.key bytes more (omega arith) in
    let d : drop s.key (bytes ++ more) ≡ drop s.key bytes ++ more = drop-append-le s.key bytes more (omega arith) in
    let v : take s.value (drop s.key bytes ++ more) ≡ take s.value (drop s.key bytes) = take-append-le s.value (drop s.key bytes) more (omega arith) in
    let w : take s.value (drop s.key (bytes ++ more)) ≡ take s.value (drop s.key bytes) = ap (take s.value) d ∙ v in
    both k w

-- more text behind the tags leaves them
pub tags_more : (ss : List Span) (bytes more : List ℕ) → total ss ≤ length bytes → tags_in ss (bytes ++ more) ≡ tags_in ss bytes
tags_more [] bytes more near = refl
tags_more (s ∷ ss) bytes more near =
    let left = length-drop (s.key + s.value) bytes in
    let d : drop (s.key + s.value) (bytes ++ more) ≡ drop (s.key + s.value) bytes ++ more = drop-append-le (s.key + s.value) bytes more (omega arith) in
    ap (λ t. t ∷ tags_in ss (drop (s.key + s.value) (bytes ++ more))) (tag_more s bytes more (omega arith))
    ∙ ap (λ x. tag_at s bytes ∷ tags_in ss x) d
    ∙ ap (λ x. tag_at s bytes ∷ x) (tags_more ss (drop (s.key + s.value) bytes) more (omega arith))

-- and is open text
pub open_more : (ss : List Span) (bytes more : List ℕ) → total ss ≤ length bytes → drop (total ss) (bytes ++ more) ≡ drop (total ss) bytes ++ more
open_more ss bytes more near = drop-append-le (total ss) bytes more near

-- a tag for each span
pub length_tags : (ss : List Span) (bytes : List ℕ) → length (tags_in ss bytes) ≡ length ss
length_tags [] bytes = refl
length_tags (s ∷ ss) bytes = let more = length_tags ss (drop (s.key + s.value) bytes) in omega arith

-- the spans reach as far as their lengths
pub total_close : (ss : List Span) (s : Span) → total (ss ++ s ∷ []) ≡ total ss + (s.key + s.value)
total_close [] s = omega arith
total_close (t ∷ ss) s = let more = total_close ss s in omega arith

-- one more tag, of all that is left
pub tags_close : (ss : List Span) (s : Span) (bytes : List ℕ) → total ss + (s.key + s.value) ≡ length bytes → tags_in (ss ++ s ∷ []) bytes ≡ tags_in ss bytes ++ made (take s.key (drop (total ss) bytes)) (drop s.key (drop (total ss) bytes)) ∷ []
tags_close [] s bytes e =
    let left = length-drop s.key bytes in
    let n : s.value ≡ length (drop s.key bytes) = omega arith in
    let v : take s.value (drop s.key bytes) ≡ drop s.key bytes = ap (λ k. take k (drop s.key bytes)) n ∙ take-length (drop s.key bytes) in
    ap (λ x. made (take s.key bytes) x ∷ []) v
tags_close (t ∷ ss) s bytes e =
    let left = length-drop (t.key + t.value) bytes in
    let d : drop (total ss) (drop (t.key + t.value) bytes) ≡ drop ((t.key + t.value) + total ss) bytes = dropped (t.key + t.value) (total ss) bytes in
    ap (λ x. tag_at t bytes ∷ x) (tags_close ss s (drop (t.key + t.value) bytes) (omega arith))
    ∙ ap (λ x. tag_at t bytes ∷ tags_in ss (drop (t.key + t.value) bytes) ++ made (take s.key x) (drop s.key x) ∷ []) d
  where
    dropped : (m n : ℕ) (xs : List ℕ) → drop n (drop m xs) ≡ drop (m + n) xs
    dropped m n xs = drop-drop n m xs

drop_all : (xs : List ℕ) → drop (length xs) xs ≡ []
drop_all [] = refl
drop_all (x ∷ xs) = drop_all xs

-- the last text becomes a tag
pub close_is : (ss new : List Span) (s : Span) (bytes : List ℕ) (now : HeldTags) → new ≡ ss ++ s ∷ [] → record { tags = tags_in ss bytes; last = drop (total ss) bytes } ≡ now → total ss + (s.key + s.value) ≡ length bytes
    → tags_in new bytes ≡ now.tags ++ made (take s.key now.last) (drop s.key now.last) ∷ []
close_is ss new s bytes now e view long =
    ap (λ x. tags_in x bytes) e ∙ tags_close ss s bytes long ∙ ap (λ (n : HeldTags). n.tags ++ made (take s.key n.last) (drop s.key n.last) ∷ []) view

-- one span more reaches to the end
pub close_total : (ss new : List Span) (s : Span) (bytes : List ℕ) → new ≡ ss ++ s ∷ [] → total ss + (s.key + s.value) ≡ length bytes → total new ≡ length bytes
close_total ss new s bytes e long = ap total e ∙ total_close ss s ∙ long

-- so that no text is open
pub close_last : (ss new : List Span) (s : Span) (bytes : List ℕ) → new ≡ ss ++ s ∷ [] → total ss + (s.key + s.value) ≡ length bytes → drop (total new) bytes ≡ []
close_last ss new s bytes e long = ap (λ n. drop n bytes) (close_total ss new s bytes e long) ∙ drop_all bytes

-- the open text has the lengths of its key and its value
pub close_long : (ss : List Span) (bytes : List ℕ) (now : HeldTags) (len closed key : ℕ) → record { tags = tags_in ss bytes; last = drop (total ss) bytes } ≡ now → len ≡ length bytes → closed ≡ total ss → total ss ≤ length bytes → key ≤ length now.last
    → total ss + (key + ((len - closed) - key)) ≡ length bytes
close_long ss bytes now len closed key view l c within k =
    let last : length (drop (total ss) bytes) ≡ length now.last = ap (λ (n : HeldTags). length n.last) view in
    let left = length-drop (total ss) bytes in
    omega arith
