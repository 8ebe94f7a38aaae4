-- What can be told of a sink, and what a call of `put_all` changes.
use Rattle.std.specs.Prelude.{◌≡◌, ℕ, ◌<◌, List, ◌++◌, length, take}

-- the bytes that it received, in order, and its count of faults
pub record SinkState : Type 0 where
  pub received : List ℕ
  pub faults : ℕ

-- the sink received a first part of the bytes, and not all of them
pub record ReceivesPart (before after : SinkState) (bytes : List ℕ) : Type 0 where
  pub count : ℕ
  pub not_all : count < length bytes
  pub received : after.received ≡ before.received ++ take count bytes
