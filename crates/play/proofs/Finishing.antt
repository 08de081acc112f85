-- What ending the input hands back, from what feeding one 0a hands back, and that it gives a trace's last line. Assumes nothing.
use mathlib.Core.Path.{◌≡◌, refl, sym, ◌∙◌, ap}
use mathlib.Core.List.{List, [], ◌∷◌, ◌++◌, append-nil}
use mathlib.Core.Option.{Option}
use Prim.Native.Nat.{ℕ, ◌/◌, ◌≤◌, ◌<◌}
use native.Mathlib.Nat.{div-eq_of_lt, le-div_iff_mul-le}
use native.Mathlib.Omega.{arith}
use borrow.Author.Tests.{ne_eqb, leb-true, leb-false, le-leb}
use lib.Dec.{eqb, leb}
use lib.ListN.{length, take, drop}
use lib.Seq.{take_at}
use Rattle.rules.specs.Bench as rules
use Rattle.rules.specs.Bench.{empty}
use Rattle.rules.specs.Requests.{Request}
use Rattle.rules.proofs.Tests.{by_bool}
use Rattle.lines.specs.Lines.{answer_line, output_by, output_of}
use Rattle.lines.specs.Feeding.{between, fed, said_by, said_byte_by, said_at_end_by, taken_by}
use Rattle.naming.specs.Text.{longest, reason_line}
use Rattle.bench.proofs.Unique.{Fits}
use Rattle.play.specs.declared.Player.{Player}
use Rattle.play.specs.declared.Fed.{Fed}
use Rattle.play.specs.Feeding.{feeding, FedAsBy}
use Rattle.play.specs.Feeds.{FeedsBy, Feeds, Explains}
use Rattle.play.specs.Finishing.{said_last_by, FinishedAsBy, FinishedAs, FinishedExplainingAs}
use Rattle.play.proofs.PlayerFeeding.{front_within}
use Rattle.play.proofs.UniquePlayers.{player_unique}
use Rattle.play.proofs.Traces.{says_the_trace}

module _ (say : rules.Bench → Option Request → List ℕ) (width : ℕ) (some : 0 < width) where
  -- no line has begun
  pub none_begun : (p : Player) (out : List ℕ) → p.count ≡ 0 → FinishedAsBy say width p out (record { player = p; used = 0; written = 0 }) out
  none_begun p out e = record { used = refl; written = rw e; output = rw e; player = rw e }

  -- one byte is taken where what it may say has room
  taken_one : (byte out : List ℕ) → length byte ≡ 1 → width ≤ length out → taken_by width byte out ≡ 1
  taken_one byte out long room =
      let fits : 1 ≤ length out / width = (le-div_iff_mul-le some).1 (omega arith) in omega arith

  taken_none : (byte out : List ℕ) → length out < width → taken_by width byte out ≡ 0
  taken_none byte out short = let no_room = div-eq_of_lt short in omega arith

  -- a line has begun: its 0a is fed, and is taken if there is room
  pub line_ends : (p : Player) (out : List ℕ) (r : Fed) (out' : List ℕ) → (p.count ≡ 0 → ⊥) → FedAsBy say width p (10 ∷ []) out r out' → FinishedAsBy say width p out (record { player = r.player; used = 0; written = r.written }) out'
  unfolding fed said_by
  line_ends p out r out' begun f =
      let byte : List ℕ = 10 ∷ [] in
      let starts = ne_eqb p.count 0 begun in
      by_bool (leb width (length out))
      (λ room.
      let all : take (taken_by width byte out) byte ≡ byte = ap (λ n. take n byte) (taken_one byte out refl (leb-true width (length out) room)) in
      let says : said_by say (feeding p) (take (taken_by width byte out) byte) ≡ said_byte_by say (feeding p) 10 = ap (said_by say (feeding p)) all ∙ append-nil (said_byte_by say (feeding p) 10) in
      record {
        used = refl;
        written = rw (starts, room) (f.written ∙ ap length says);
        output = rw (starts, room) (f.output ∙ ap (λ text. text ++ drop r.written out) says);
        player = rw (starts, room) (f.player ∙ ap (fed (feeding p)) all);
      })
      (λ short.
      let none : take (taken_by width byte out) byte ≡ [] = ap (λ n. take n byte) (taken_none byte out (leb-false width (length out) short)) in
      let says : said_by say (feeding p) (take (taken_by width byte out) byte) ≡ [] = ap (said_by say (feeding p)) none in
      record {
        used = refl;
        written = rw (starts, short) (f.written ∙ ap length says);
        output = rw (starts, short) (f.output ∙ ap (λ text. text ++ drop r.written out) says);
        player = rw (starts, short) (f.player ∙ ap (fed (feeding p)) none);
      })

  -- what was written lies within the buffer
  pub finished_within : {p : Player} {out : List ℕ} {r : Fed} {out' : List ℕ} → FinishedAsBy say width p out r out' → r.written ≤ length out'
  finished_within {p} {out} {r} f = front_within (said_last_by say width (feeding p) out) (drop r.written out) f.written f.output

  -- ---- the end of a trace

  -- Where there is room, what is written is what a last line without its 0a adds.
  pub finishes : {p : Player} {out : List ℕ} {r : Fed} {out' : List ℕ} → width ≤ length out → FinishedAsBy say width p out r out' → take r.written out' ≡ said_at_end_by say (feeding p)
  unfolding said_at_end_by
  finishes {p} {out} {r} {out'} room f =
      let text = said_last_by say width (feeding p) out in
      let wrote : take r.written out' ≡ text = ap (take r.written) f.output ∙ take_at text (drop r.written out) r.written (sym f.written) in
      by_bool (eqb p.count 0)
      (λ none. wrote ∙ rw none)
      (λ begun. wrote ∙ rw (begun, le-leb width (length out) room))

  -- From a new player on: what feeding wrote, whatever chunks and buffers were lent, and what ending the input writes are together what is written for the trace.
  pub says_the_whole_trace : {p q : Player} {xs ys : List ℕ} {out : List ℕ} {r : Fed} {out' : List ℕ} → feeding p ≡ between empty → FeedsBy say width p xs ys q → width ≤ length out → FinishedAsBy say width q out r out' → ys ++ take r.written out' ≡ output_by say xs
  says_the_whole_trace {ys = ys} new feeds room f =
      ap (λ text. ys ++ text) (finishes room f) ∙ says_the_trace say width new feeds

  -- Ending the input has one result, and leaves one content of the buffer.
  pub finished_unique : (p : Player) (out : List ℕ) (x y : Fed) (out_x out_y : List ℕ) → Fits x.player.bench → Fits y.player.bench → FinishedAsBy say width p out x out_x → FinishedAsBy say width p out y out_y → (x ≡ y) × (out_x ≡ out_y)
  finished_unique p out x y out_x out_y fx fy ex ey =
      let player = player_unique x.player y.player fx fy (ex.player ∙ sym ey.player) in
      let used = ex.used ∙ sym ey.used in
      let written = ex.written ∙ sym ey.written in (
        λ j. record { player = player j; used = used j; written = written j },
        ex.output ∙ ap (λ n. said_last_by say width (feeding p) out ++ drop n out) written ∙ sym ey.output,
      )

-- With `feed` and `finish` that is the trace's output.
pub plays_the_whole_trace : {p q : Player} {xs ys : List ℕ} {out : List ℕ} {r : Fed} {out' : List ℕ} → feeding p ≡ between empty → Feeds p xs ys q → 3 ≤ length out → FinishedAs q out r out' → ys ++ take r.written out' ≡ output_of xs
plays_the_whole_trace = says_the_whole_trace answer_line 3 (omega arith)

-- With `explain` and `finish_explaining` it is each line's reason.
pub explains_the_whole_trace : {p q : Player} {xs ys : List ℕ} {out : List ℕ} {r : Fed} {out' : List ℕ} → feeding p ≡ between empty → Explains p xs ys q → longest ≤ length out → FinishedExplainingAs q out r out' → ys ++ take r.written out' ≡ output_by reason_line xs
explains_the_whole_trace = says_the_whole_trace reason_line longest (omega arith)
