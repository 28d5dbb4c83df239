-- The commits that the events of a script make apply one after the other.
--     reached_opened       the machine that a sound file opens to
--     goes_on              the commit of an event applies, and the machine behind it is reached so
--     made_leads           those of several apply one after the other
--     commits_apply        of the events of a script over a sound file
use Rattle.std.proofs.Common.{◌≡◌, ℕ, zero, suc, ◌<◌, Bool, true, false, List, []}
use Rattle.std.proofs.Common.{◌∷◌, ◌++◌, Option, Some, None, option_map, refl, sym, ap, subst, ◌∙◌, arith}
use Rattle.std.specs.Prelude.{nat_lt, replicate}
use Rattle.std.specs.List.{AllByRecursion}
use Rattle.std.specs.Option.{option_to_list}
use Rattle.std.proofs.lemmas.Bool.Decides.{nat_tests}
use Rattle.std.proofs.lemmas.Option.{IfSome_then}
use Rattle.wh_value.specs.Limit.{bound}
use Rattle.wh_value.specs.declared.limit.Limit.TheVariants as limits
use Rattle.wh_reply.specs.Reply.{Reply}
use Rattle.wh_state.specs.State.{State, stamped}
use Rattle.wh_state.specs.State.{table_in}
use Rattle.wh_state.specs.Act.{Act}
use Rattle.wh_state.specs.Stored.{StoredObject, Stored, meant, Means}
use Rattle.wh_state.specs.Commit.{Commit, Applies, Leads}
use Rattle.wh_state.specs.Written.{written, commit_for, kept_after}
use Rattle.wh_state.specs.File.{Keeps}
use Rattle.wh_state.specs.Sound.{Sound}
use Rattle.wh_state.specs.Orderly.{IsOrderlyObject, IsOrderlyStored}
use Rattle.wh_state.proofs.AllLaws.{all_map}
use Rattle.wh_state.proofs.FirmLaws.{IsFirmObject, IsFirm, firm_file}
use Rattle.wh_state.proofs.WrittenLaws.{go_firm}
use Rattle.wh_machine.specs.Outcome.{Machine, opened, settled, acts_in}
use Rattle.wh_machine.specs.Step.{Event, reading_of, stamp_of, has_stamp, decided, step}
use Rattle.wh_machine.specs.Made.{made, all_made, kept_after_all}
use Rattle.wh_machine.specs.Script.{IsScript}
use Rattle.wh_machine.proofs.StandLaws.{AllStandOn}
use Rattle.wh_machine.proofs.WorksLaws.{IsReached, CommitGoes, Works}
use Rattle.wh_machine.proofs.ReachedLaws.{IsFilledEvent, works_event}
use Rattle.wh_machine.proofs.FilledLaws.{script_filled}
use Rattle.wh_machine.proofs.SoundLaws.{sound_opened, sound_ready, sound_step}
use Rattle.wh_machine.proofs.StepLaws.{ready, decided_meant, step_at, acts_at, no_acts, stamp_refused}

orderly_firm : (s : Stored) → IsFirm s.objects → IsOrderlyStored s
orderly_firm s firm =
    all_map IsFirmObject IsOrderlyObject
    (λ o h. IfSome_then (table_in o.kind) h (λ t firm. firm.kept.orderly)) s.objects firm.tables

none_stand : (objects : List StoredObject) (count : ℕ) → AllStandOn objects (replicate count None)
none_stand objects zero = tt
none_stand objects (suc count) = (tt, none_stand objects count)

-- no transaction is open there
pub reached_opened : (file : List ℕ) (s : Stored) (start : State) → Keeps file s → Means s start → Sound start
    → IsReached s (opened start)
reached_opened file s start keeps means sound = record {
  means = means ∙ ap (λ (last : ℕ). record (meant s) { last = last }) (sym (ap (λ (t : State). t.last) means));
  sound = sound_opened start sound;
  firm = firm_file file s keeps;
  stand = none_stand s.objects 65;
}

-- at the stamp of an event
reached_ready : (s : Stored) (m : Machine) (e : Event) → IsReached s m → IsReached s (ready m e)
reached_ready s m e reached = record {
  means = ap (λ (t : State). stamped t (stamp_of m.state (reading_of e))) reached.means;
  sound = sound_ready m e reached.sound;
  firm = reached.firm;
  stand = reached.stand;
}

abbrev pub AppliesIf : Stored → Option Commit → Type 0
AppliesIf s None = Unit {0}
AppliesIf s (Some c) = Applies s c

goes_apply : (s : Stored) (stamp : ℕ) → s.last < stamp → stamp < bound limits.Stamp → (acts : Option (List Act))
    → CommitGoes s stamp acts → AppliesIf s (option_map (commit_for s stamp) acts)
goes_apply s stamp later within None goes = tt
goes_apply s stamp later within (Some acts) goes = record {
  later = later;
  within = within;
  changes = goes.applies;
  groups = goes.follows;
}

goes_firm : (s : Stored) (stamp : ℕ) (acts : Option (List Act)) → CommitGoes s stamp acts → IsFirm s.objects
    → IsFirm (kept_after s (option_map (commit_for s stamp) acts)).objects
goes_firm s stamp None goes firm = firm
goes_firm s stamp (Some acts) goes firm = go_firm stamp s.objects (written stamp s.objects acts) goes firm

-- the commit of an event applies, and the machine behind it is that of the file behind it
pub record GoesOn (s : Stored) (m : Machine) (e : Event) : Type 0 where
  pub applies : AppliesIf s (made s m e)
  pub reached : IsReached (kept_after s (made s m e)) (step m e).0

pub goes_on : (s : Stored) (m : Machine) (e : Event) → IsFilledEvent e → IsReached s m → GoesOn s m e
goes_on s m e filled reached =
    by_stamp (has_stamp m e) refl (works_event s (ready m e) e filled (reached_ready s m e reached))
  where
    stamp : ℕ
    stamp = stamp_of m.state (reading_of e)

    before : s.last < stamp
    before =
        let committed : m.state.committed ≡ s.last = ap (λ (t : State). t.committed) reached.means in
        omega (arith, committed, reached.sound.state.ordered)

    below : nat_lt stamp (bound limits.Stamp) ≡ true → stamp < bound limits.Stamp
    below test = grind (arith, nat_tests)

    by_stamp : (has : Bool) → has_stamp m e ≡ has → Works s (ready m e) (decided m e) → GoesOn s m e
    by_stamp false none works =
        let acts : made s m e ≡ None = ap (option_map (commit_for s stamp)) (no_acts m e none) in
        let same : (step m e).0 ≡ m = ap (λ (p : Machine × Reply). p.0) (stamp_refused m e none) in
        record {
          applies = subst (AppliesIf s) (sym acts) tt;
          reached = subst (λ (c : Option Commit). IsReached (kept_after s c) (step m e).0) (sym acts)
              (subst (IsReached s) (sym same) reached);
        }
    by_stamp true has works =
        let new : Stored = kept_after s (option_map (commit_for s stamp) (acts_in (decided m e))) in
        let acts : made s m e ≡ option_map (commit_for s stamp) (acts_in (decided m e)) =
        ap (option_map (commit_for s stamp)) (acts_at m e has) in
        let same : (step m e).0 ≡ (settled (ready m e) (decided m e)).0 =
        ap (λ (p : Machine × Reply). p.0) (step_at m e has) in
        let means : (step m e).0.state ≡ record (meant new) { last = stamp } =
        ap (λ (n : Machine). n.state) same ∙ decided_meant s m e (orderly_firm s reached.firm) reached.means in
        let last : (step m e).0.state.last ≡ stamp = ap (λ (t : State). t.last) means in
        record {
          applies = subst (AppliesIf s) (sym acts)
              (goes_apply s stamp before (below has) (acts_in (decided m e)) works.goes);
          reached = subst (λ (c : Option Commit). IsReached (kept_after s c) (step m e).0) (sym acts) (record {
            means = means ∙ ap (λ (n : ℕ). record (meant new) { last = n }) (sym last);
            sound = sound_step m e reached.sound;
            firm = goes_firm s stamp (acts_in (decided m e)) works.goes reached.firm;
            stand = subst (λ (n : Machine). AllStandOn new.objects n.sessions) (sym same) works.stand;
          });
        }

leads_on : (s : Stored) (c : Option Commit) (cs : List Commit) (new : Stored) → AppliesIf s c
    → Leads (kept_after s c) cs new → Leads s (option_to_list c ++ cs) new
leads_on s None cs new applies leads = leads
leads_on s (Some c) cs new applies leads = (applies, leads)

-- of events one after the other
pub made_leads : (s : Stored) (m : Machine) (es : List Event) → AllByRecursion IsFilledEvent es → IsReached s m
    → Leads s (all_made s m es) (kept_after_all s m es)
made_leads s m [] filled reached = refl
made_leads s m (e ∷ es) filled reached =
    let on : GoesOn s m e = goes_on s m e filled.0 reached in
    leads_on s (made s m e) (all_made (kept_after s (made s m e)) (step m e).0 es)
    (kept_after_all (kept_after s (made s m e)) (step m e).0 es) on.applies
    (made_leads (kept_after s (made s m e)) (step m e).0 es filled.1 on.reached)

-- of the events of a script over a sound file
pub commits_apply : (file input : List ℕ) (s : Stored) (start : State) (es : List Event) → Keeps file s → Means s start
    → Sound start → IsScript input es
    → Leads s (all_made s (opened start) es) (kept_after_all s (opened start) es)
commits_apply file input s start es keeps means sound script =
    made_leads s (opened start) es (script_filled input es script) (reached_opened file s start keeps means sound)
