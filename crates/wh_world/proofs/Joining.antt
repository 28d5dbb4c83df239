-- One more call joins those that a disk in memory keeps.
use Rattle.std.proofs.Common.{◌≡◌, ℕ, ◌+◌, ◌≤◌, List, [], ◌∷◌, ◌++◌, length, take, drop, refl, sym, ◌∙◌, ap, arith}
use Rattle.std.proofs.Common.{length-append, length-drop}
use Rattle.std.proofs.lemmas.List.{take_all, take-append-le, drop-append-le}
use Rattle.wh_world.specs.Bytes.{written}
use Rattle.wh_world.specs.Events.{Event, wrote, tore, synced, content}
use Rattle.wh_world.specs.Logged.{events, bytes_written, Agrees}
use Rattle.wh_world.specs.declared.logged.Logged.{Logged}
use Rattle.wh_world.specs.declared.logged.Logged.TheVariants.{Wrote, Tore, Synced}

-- a write joins the log at its end, with its bytes
pub events_wrote : (past : List Event) (log : List Logged) (pieces piece : List ℕ) (at : ℕ)
    → length pieces ≡ bytes_written log
    → events past (log ++ Wrote at (length piece) ∷ []) (pieces ++ piece) ≡ wrote at piece ∷ events past log pieces
events_wrote past [] [] piece at fits =
    ap (λ (l : List ℕ). wrote at l ∷ past) (take_all (length piece) piece (omega arith))
events_wrote past [] (p ∷ pieces) piece at fits = absurd (omega arith)
events_wrote past (Wrote from n ∷ log) pieces piece at fits =
    let within : n ≤ length pieces = omega arith in
    let more = log ++ Wrote at (length piece) ∷ [] in
    let parted : events (wrote from (take n (pieces ++ piece)) ∷ past) more (drop n (pieces ++ piece))
    ≡ events (wrote from (take n pieces) ∷ past) more (drop n pieces ++ piece) =
    λ i. events (wrote from (take-append-le n pieces piece within i) ∷ past) more
    (drop-append-le n pieces piece within i) in
    let rest : length (drop n pieces) ≡ bytes_written log = omega (arith, length-drop n pieces) in
    parted ∙ events_wrote (wrote from (take n pieces) ∷ past) log (drop n pieces) piece at rest
events_wrote past (Tore from n ∷ log) pieces piece at fits =
    events_wrote (tore from n ∷ past) log pieces piece at fits
events_wrote past (Synced ∷ log) pieces piece at fits =
    events_wrote (synced ∷ past) log pieces piece at fits

-- so does a torn one
pub events_tore : (past : List Event) (log : List Logged) (pieces : List ℕ) (at n : ℕ)
    → events past (log ++ Tore at n ∷ []) pieces ≡ tore at n ∷ events past log pieces
events_tore past [] pieces at n = refl
events_tore past (Wrote from m ∷ log) pieces at n =
    events_tore (wrote from (take m pieces) ∷ past) log (drop m pieces) at n
events_tore past (Tore from m ∷ log) pieces at n = events_tore (tore from m ∷ past) log pieces at n
events_tore past (Synced ∷ log) pieces at n = events_tore (synced ∷ past) log pieces at n

-- and a sync
pub events_synced : (past : List Event) (log : List Logged) (pieces : List ℕ)
    → events past (log ++ Synced ∷ []) pieces ≡ synced ∷ events past log pieces
events_synced past [] pieces = refl
events_synced past (Wrote from m ∷ log) pieces =
    events_synced (wrote from (take m pieces) ∷ past) log (drop m pieces)
events_synced past (Tore from m ∷ log) pieces = events_synced (tore from m ∷ past) log pieces
events_synced past (Synced ∷ log) pieces = events_synced (synced ∷ past) log pieces

-- the bytes of two logs, one after the other
bytes_written-append : (log more : List Logged)
    → bytes_written (log ++ more) ≡ bytes_written log + bytes_written more
bytes_written-append [] more = omega arith
bytes_written-append (Wrote from n ∷ log) more = omega (arith, bytes_written-append log more)
bytes_written-append (Tore from n ∷ log) more = bytes_written-append log more
bytes_written-append (Synced ∷ log) more = bytes_written-append log more

-- what is kept still agrees after a write
pub agrees_wrote : (first bytes pieces piece : List ℕ) (log : List Logged) (at : ℕ)
    → Agrees first bytes pieces log
    → Agrees first (written bytes at piece) (pieces ++ piece) (log ++ Wrote at (length piece) ∷ [])
agrees_wrote first bytes pieces piece log at agrees = record {
  shown = ap (λ (l : List ℕ). written l at piece) agrees.shown
      ∙ sym (ap (content first) (events_wrote [] log pieces piece at agrees.spelled));
  spelled = omega (
    arith,
    agrees.spelled,
    length-append pieces piece,
    bytes_written-append log (Wrote at (length piece) ∷ []),
  );
}

-- and after a torn one
pub agrees_tore : (first bytes pieces : List ℕ) (log : List Logged) (at n : ℕ)
    → Agrees first bytes pieces log → Agrees first bytes pieces (log ++ Tore at n ∷ [])
agrees_tore first bytes pieces log at n agrees = record {
  shown = agrees.shown ∙ sym (ap (content first) (events_tore [] log pieces at n));
  spelled = omega (arith, agrees.spelled, bytes_written-append log (Tore at n ∷ []));
}

-- and after a sync
pub agrees_synced : (first bytes pieces : List ℕ) (log : List Logged)
    → Agrees first bytes pieces log → Agrees first bytes pieces (log ++ Synced ∷ [])
agrees_synced first bytes pieces log agrees = record {
  shown = agrees.shown ∙ sym (ap (content first) (events_synced [] log pieces));
  spelled = omega (arith, agrees.spelled, bytes_written-append log (Synced ∷ []));
}
