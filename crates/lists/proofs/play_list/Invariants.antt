-- `play_list`: before each turn the places before the loop's have their answers, and playing the others from here gives what playing the whole list gives.
use Rattle.bench.specs.Record.{viewed}
use Rattle.lists.proofs.Turn.{Stands}
use Rattle.lists.proofs.play_list.Given as goal

abbrev pub invariant-loop-request : goal.invariant-loop-request
invariant-loop-request l = Stands (viewed l.fn.bench) l.fn.list l.request-index (viewed l.bench) l.list
