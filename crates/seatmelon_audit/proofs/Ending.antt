-- All connections, while they take in the fault that ended the reading.
use Rattle.std.proofs.Common.{◌≡◌, ◌∙◌, ⊎_elim, ℕ, ◌+◌, ◌<◌, ◌≤◌, List, length, get_or, refl, sym, subst, arith}
use Rattle.rasta_pcap.specs.declared.fault.Fault.{Fault}
use Rattle.seatmelon_audit.specs.Ends.{AllEnd, AreEndedBelow, EndsBy, IsEndAt}
use Rattle.seatmelon_audit.specs.declared.line.Line.{Line}
use Rattle.seatmelon_audit.proofs.Places.{at_changed, elsewhere, params_changed, same_count, same_or_other}

pub none_ended : (lines : List Line) (fault : Fault) → AreEndedBelow 0 lines lines fault
none_ended lines fault = record {
  params = refl;
  ended = λ i d below inside. absurd (omega (arith, below));
  same = λ i d from. refl;
}

module _ (place : ℕ) (first old new : List Line) (fault : Fault) (before : AreEndedBelow place first old fault) (step : IsEndAt place old new fault) where
  inside_old : (i : ℕ) → i < length first → i < length old
  inside_old i inside = (let size = same_count old first before.params in omega (arith, inside, size))

  ended_here : (d : Line) → place < length first → EndsBy (get_or first place d) (get_or new place d) fault
  ended_here d inside =
      let h = step.here d (inside_old place inside) in
      subst (λ (l : Line). EndsBy (get_or first place d) l fault) (sym (at_changed place old new step d (inside_old place inside)))
      (subst (λ (l : Line). EndsBy l h.0 fault) (before.same place d (omega arith)) h.2.ends)

  ended_before : (i : ℕ) (d : Line) → i < place → i < length first → EndsBy (get_or first i d) (get_or new i d) fault
  ended_before i d below inside =
      subst (λ (l : Line). EndsBy (get_or first i d) l fault) (sym (elsewhere place old new step i d (λ e. omega (arith, e, below)))) (before.ended i d below inside)

  pub one_ended : AreEndedBelow (place + 1) first new fault
  one_ended = record {
    params = params_changed place old new step (λ a b h. h.params) ∙ before.params;
    ended = λ i d below inside. ⊎_elim
        (λ (e : i ≡ place). subst (λ n. EndsBy (get_or first n d) (get_or new n d) fault) (sym e) (ended_here d (omega (arith, inside, e))))
        (λ (other : i ≡ place → ⊥). ended_before i d (omega (arith, below, other)) inside)
        (same_or_other i place);
    same = λ i d from. elsewhere place old new step i d (λ e. omega (arith, e, from)) ∙ before.same i d (omega (arith, from));
  }

pub all_ended : (place : ℕ) (old new : List Line) (fault : Fault) → length old ≤ place → AreEndedBelow place old new fault → AllEnd old new fault
all_ended place old new fault through below records after h i d inside =
    let within : i < length old = (let size = same_count new old below.params in omega (arith, inside, size)) in
    below.ended i d (omega (arith, within, through)) within records after (h i d within)
