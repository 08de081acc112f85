-- What a player hands back is what feeding its bytes gives, whatever is written for a line. Assumes nothing.
use mathlib.Core.Bool.{Bool}
use mathlib.Core.Path.{◌≡◌, refl, sym, ◌∙◌, ap}
use mathlib.Core.List.{List, ◌++◌}
use mathlib.Core.Option.{Option}
use Prim.Native.Nat.{ℕ, ◌+◌, ◌≤◌}
use native.Mathlib.Nat.{zero-add}
use native.Mathlib.Omega.{arith}
use lib.ListN.{length, take, drop, length-append}
use lib.Seq.{sets-eq}
use Rattle.rules.specs.Bench as rules
use Rattle.rules.specs.Requests.{Request}
use Rattle.lines.specs.Feeding.{said_by, taken_by, FedBytesBy}
use Rattle.lines.specs.NextEnds.{EndsAs}
use Rattle.index.specs.Tables.{Table}
use Rattle.lines.proofs.FeedLaws.{Within, said_short, taken_by_fits, line_fed}
use Rattle.steps.specs.Arrays.{read_sets, write_sets}
use Rattle.play.specs.declared.Player.{Player}
use Rattle.play.specs.declared.Fed.{Fed}
use Rattle.play.specs.Feeding.{feeding, FedAsBy, PutAs}
use Rattle.play.specs.Known.{feeding_in, LineDone}

pub fed_as : {say : rules.Bench → Option Request → List ℕ} {width : ℕ} {p : Player} {input out : List ℕ} {r : Fed} {out' : List ℕ} → Within say width → r.used ≡ taken_by width input out → FedBytesBy say (feeding p) (take r.used input) out 0 (feeding r.player) out' r.written → FedAsBy say width p input out r out'
fed_as {say} {width} {p} {input} {out} {r} within e m =
    let text : List ℕ = said_by say (feeding p) (take r.used input) in
    let short = said_short say width within (feeding p) (take r.used input) in
    let room = taken_by_fits width input out r.used e in
    let fits : 0 + length text ≤ length out = omega arith in
    record {
      used = e;
      written = rw (← e) (m.up_to ∙ zero-add _);
      output = rw (← e) (m.wrote ∙ sets-eq text out 0 fits ∙ ap (λ k. text ++ drop k out) (sym m.up_to));
      player = rw (← e) m.is;
    }

-- a text at the start of a buffer lies within it
pub front_within : (text rest : List ℕ) {out : List ℕ} {n : ℕ} → n ≡ length text → out ≡ text ++ rest → n ≤ length out
front_within text rest size e = omega (arith, length-append text rest, ap length e)

-- so does what feeding wrote
pub written_within : {say : rules.Bench → Option Request → List ℕ} {width : ℕ} {p : Player} {input out out' : List ℕ} {r : Fed} → FedAsBy say width p input out r out' → r.written ≤ length out'
written_within {say} {width} {p} {input} {out} {r = r} f =
    front_within (said_by say (feeding p) (take (taken_by width input out) input)) (drop r.written out) f.written f.output

-- the end of a line is fed where its text is put
pub line_said : {say : rules.Bench → Option Request → List ℕ} (before after : Table) {ok : Bool} {r : Option Request} {answer count value : ℕ} {bytes out out' : List ℕ} {at at' : ℕ} →
    EndsAs count value bytes r → LineDone ok r before answer after → PutAs (say (feeding_in before 0 0).bench r) out at out' at' →
    FedBytesBy say (feeding_in before count value) bytes out at (feeding_in after 0 0) out' at'
line_said before after ends done put =
    line_fed {parents = before.parents} {states = before.states} {reads = read_sets before.owners} {writes = write_sets before.owners}
    ends done.ended refl put.wrote put.up_to
