-- A link in memory: what it gives, takes and refuses, call by call.
use Rattle.std.specs.Prelude.{ℕ, ◌-◌, ◌==◌, ◌&&◌, ◌||◌, not, if◌then◌else◌, min, Bool, List, ◌++◌, length, take, drop, Result, Ok, Err}
use Rattle.std.specs.List.{list_any}
use Rattle.desk_edge.specs.Faults.{one_more}
use Rattle.desk_edge.specs.declared.failed.Failed.{Failed}

-- a link in memory, as its calls see it
pub record Memory : Type 0 where
  -- the bytes that reads will give
  pub unread : List ℕ
  -- the bytes that writes have taken
  pub written : List ℕ
  -- the most that one read gives
  pub piece : ℕ
  -- how many bytes writes will still take
  pub room : ℕ
  -- the numbers of the calls that fail, counted from 1
  pub failing : List ℕ
  -- how many calls were made, counted up to the last value of the count
  pub calls : ℕ
  -- how many of them failed, and how many of those were reads, counted in the same way
  pub faults : ℕ
  pub read_faults : ℕ

-- whether the next call is one of those that fail
abbrev pub link_fails_next : Memory → Bool
link_fails_next m = list_any (λ n. n == one_more m.calls) m.failing

-- whether a write of these bytes fails: by its number, or for want of room
abbrev pub refuses : Memory → List ℕ → Bool
refuses m bytes = link_fails_next m || ((m.room == 0) && not (length bytes == 0))

-- the link after a call that failed, which is counted twice, as a call and as a fault
abbrev pub link_after_fault : Memory → Memory
link_after_fault m = record m { calls = one_more m.calls; faults = one_more m.faults }

-- how many bytes a read into a buffer of this length gives
abbrev pub read_len : Memory → ℕ → ℕ
read_len m len = min (min m.piece len) (length m.unread)

-- what a read into a buffer of this length answers
abbrev pub read_answer : Memory → ℕ → Result ℕ Failed
read_answer m len = if link_fails_next m then Err (record {}) else Ok (read_len m len)

-- the link after a read into a buffer of this length
abbrev pub after_read : Memory → ℕ → Memory
after_read m len =
    if link_fails_next m then record (link_after_fault m) { read_faults = one_more m.read_faults }
    else record m { calls = one_more m.calls; unread = drop (read_len m len) m.unread }

-- a buffer after a read: the bytes that were given, and behind them what it held
abbrev pub buffer_after : Memory → List ℕ → List ℕ
buffer_after m into =
    if link_fails_next m then into
    else take (read_len m (length into)) m.unread ++ drop (read_len m (length into)) into

-- how many of these bytes a write takes
abbrev pub write_len : Memory → List ℕ → ℕ
write_len m bytes = min m.room (length bytes)

-- what a write of these bytes answers
abbrev pub write_answer : Memory → List ℕ → Result ℕ Failed
write_answer m bytes = if refuses m bytes then Err (record {}) else Ok (write_len m bytes)

-- the link after a write of these bytes
abbrev pub after_write : Memory → List ℕ → Memory
after_write m bytes =
    if refuses m bytes then link_after_fault m
    else record m {
      calls = one_more m.calls;
      written = m.written ++ take (write_len m bytes) bytes;
      room = m.room - write_len m bytes;
    }
