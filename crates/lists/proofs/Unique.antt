-- No second result satisfies a contract: the reading of a request record loses nothing, and neither does that of a bench (`bench` proofs/Unique). So a contract that
-- gives the call read from a result gives the result. Assumes nothing.
use mathlib.Core.Path.{◌≡◌, sym, ◌∙◌, ap}
use mathlib.Core.List.{List, map, map-map, map-id}
use Prim.Native.Nat.{◌<◌}
use lib.ListN.{length, length-map}
use Rattle.rules.specs.Answers.{answered}
use Rattle.rules.specs.ReadWrite.{read_write}
use Rattle.rules.specs.Lists.{Entry, entry_request}
use Rattle.rules.proofs.Lists.{call_refused, call_length}
use Rattle.bench.specs.declared.Bench.{Bench}
use Rattle.bench.specs.declared.Reply.{Reply}
use Rattle.bench.specs.Record.{viewed}
use Rattle.bench.proofs.Unique.{Fits, view_injective, same_reply}
use Rattle.lists.specs.declared.Request.{Request}
use Rattle.lists.specs.declared.Played.{Played}
use Rattle.lists.specs.Listed.{entry, called, ReturnsOne, ReturnsList}

-- the request record of an entry
abbrev pub record_of : Entry → Request
record_of e = record { kind = e.kind; x = e.x; y = e.y; answer = e.answer }

-- lists that are read as the same entries are the same list
pub entries_injective : (xs ys : List Request) → map entry xs ≡ map entry ys → xs ≡ ys
entries_injective xs ys e = back xs ∙ ap (map record_of) e ∙ sym (back ys)
  where
    back : (zs : List Request) → zs ≡ map record_of (map entry zs)
    back zs = sym (map-map record_of entry zs ∙ map-id zs)

-- A single request has one result on each record.
pub one_unique : (b : Bench) (q : Request) (x y : Reply) → Fits x.bench → Fits y.bench → ReturnsOne b q x → ReturnsOne b q y → x ≡ y
one_unique b q x y fx fy = same_reply x y fx fy (answered read_write (viewed b) (entry_request (entry q)))

-- A call has one result on each record with each list: one reply, and one list after it.
pub list_unique : (b : Bench) (list : List Request) (x y : Reply) (after_x after_y : List Request) → Fits x.bench → Fits y.bench → ReturnsList b list x after_x → ReturnsList b list y after_y → (x ≡ y) × (after_x ≡ after_y)
list_unique b list x y after_x after_y fx fy ex ey = (λ j. record { bench = bench j; answer = ap (λ c. c.answer) same j }, entries_injective after_x after_y (ap (λ c. c.list) same))
  where
    same : called x after_x ≡ called y after_y
    same = ex ∙ sym ey

    bench : x.bench ≡ y.bench
    bench = view_injective x.bench y.bench fx fy (ap (λ c. c.next) same)

pub array_unique : (b : Bench) (list : List Request) (x y : Played) → Fits x.reply.bench → Fits y.reply.bench → ReturnsList b list x.reply x.list → ReturnsList b list y.reply y.list → x ≡ y
array_unique b list x y fx fy ex ey = let same = list_unique b list x.reply y.reply x.list y.list fx fy ex ey in λ j. record { reply = same.0 j; list = same.1 j }

-- A call that is refused hands back list and record as they came.
pub refused_as_they_came : (b : Bench) (list : List Request) (r : Reply) (after : List Request) → Fits b → Fits r.bench → ReturnsList b list r after → 32 < length list → (r.answer ≡ 11) × (r.bench ≡ b) × (after ≡ list)
refused_as_they_came b list r after fb fr returned long = (
  ap (λ c. c.answer) is,
  view_injective r.bench b fr fb (ap (λ c. c.next) is),
  entries_injective after list (ap (λ c. c.list) is),
)
  where
    is : called r after ≡ record { answer = 11; list = map entry list; next = viewed b }
    is = returned ∙ call_refused read_write (viewed b) (map entry list) (rw (length-map list entry) long)

-- The list after a call is as long as before it.
pub same_length : (b : Bench) (list : List Request) (r : Reply) (after : List Request) → ReturnsList b list r after → length after ≡ length list
same_length b list r after returned = sym (length-map after entry) ∙ ap (λ c. length c.list) returned ∙ call_length read_write (viewed b) (map entry list) ∙ length-map list entry
