-- Feeding a player has one result: the view that a contract gives fixes the record. Assumes nothing.
use mathlib.Core.Path.{◌≡◌, sym, ◌∙◌, ap}
use mathlib.Core.List.{List, ◌++◌}
use mathlib.Core.Option.{Option}
use Prim.Native.Nat.{ℕ, ◌+◌}
use borrow.Author.Tests.{leb-true, leb-false}
use lib.Dec.{leb}
use lib.ListN.{length, take, drop}
use Rattle.rules.specs.Bench as rules
use Rattle.rules.specs.Requests.{Request}
use Rattle.rules.proofs.Tests.{by_bool}
use Rattle.lines.specs.Lines.{answer_line}
use Rattle.lines.specs.Feeding.{said_by, taken_by}
use Rattle.naming.specs.Text.{longest, reason_line}
use Rattle.bench.proofs.Unique.{Fits, view_injective}
use Rattle.play.specs.declared.Player.{Player}
use Rattle.play.specs.declared.Fed.{Fed}
use Rattle.play.specs.Feeding.{feeding, FedAsBy, FedAs, ExplainedAs}
use Rattle.play.specs.Telling.{PutWithin}

-- A player is told by what it was fed.
pub player_unique : (p q : Player) → Fits p.bench → Fits q.bench → feeding p ≡ feeding q → p ≡ q
player_unique p q fp fq e =
    let bench = view_injective p.bench q.bench fp fq (ap (λ f. f.bench) e) in
    λ j. record { bench = bench j; count = (e j).count; value = (e j).value }

-- Feeding has one result, and leaves one content of the buffer, whatever is written for a line.
module _ (say : rules.Bench → Option Request → List ℕ) (width : ℕ) where
  fed_by_unique : (p : Player) (input out : List ℕ) (x y : Fed) (out_x out_y : List ℕ) → Fits x.player.bench → Fits y.player.bench → FedAsBy say width p input out x out_x → FedAsBy say width p input out y out_y → (x ≡ y) × (out_x ≡ out_y)
  fed_by_unique p input out x y out_x out_y fx fy ex ey =
      let player = player_unique x.player y.player fx fy (ex.player ∙ sym ey.player) in
      let used = ex.used ∙ sym ey.used in
      let written = ex.written ∙ sym ey.written in (
        λ j. record { player = player j; used = used j; written = written j },
        ex.output ∙ ap (λ n. said_by say (feeding p) (take (taken_by width input out) input) ++ drop n out) written ∙ sym ey.output,
      )

-- of `feed`, and of `explain`
pub fed_unique : (p : Player) (input out : List ℕ) (x y : Fed) (out_x out_y : List ℕ) → Fits x.player.bench → Fits y.player.bench → FedAs p input out x out_x → FedAs p input out y out_y → (x ≡ y) × (out_x ≡ out_y)
fed_unique = fed_by_unique answer_line 3

pub explained_unique : (p : Player) (input out : List ℕ) (x y : Fed) (out_x out_y : List ℕ) → Fits x.player.bench → Fits y.player.bench → ExplainedAs p input out x out_x → ExplainedAs p input out y out_y → (x ≡ y) × (out_x ≡ out_y)
explained_unique = fed_by_unique reason_line longest

-- Putting what is written for a line has one result, and leaves one content of the buffer.
pub put_unique : (width : ℕ) (text out : List ℕ) (at x y : ℕ) (out_x out_y : List ℕ) → PutWithin width text out at out_x x → PutWithin width text out at out_y y → (x ≡ y) × (out_x ≡ out_y)
put_unique width text out at x y out_x out_y ex ey =
    by_bool (leb (at + width) (length out))
    (λ t.
    let room = leb-true (at + width) (length out) t in
    let px = ex.put room in
    let py = ey.put room in
    (px.up_to ∙ sym py.up_to, px.wrote ∙ sym py.wrote))
    (λ f.
    let none = leb-false (at + width) (length out) f in
    let kx = ex.kept none in
    let ky = ey.kept none in
    (kx.1 ∙ sym ky.1, kx.0 ∙ sym ky.0))
