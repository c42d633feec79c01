-- The longest silence, with one packet more.
use Rattle.std.proofs.Common.{◌≡◌, ◌∙◌, ◌<◌, ◌≤◌, List, [], ◌∷◌, ◌++◌, map, All, Option, None, Some, ap, refl, sym, subst, append_assoc, append-nil, arith}
use Rattle.std.proofs.lemmas.List.{map-append}
use Rattle.std.proofs.lemmas.List.Elements.{All-append, All-cons, All-nil, All-push, All-weaker}
use Rattle.std.specs.List.{last_or}
use Rattle.seatmelon_reading.specs.Silences.{IsFirstLongest, IsLongest, IsSearch, nanoseconds_in, silence_of, silences_between}
use Rattle.seatmelon_reading.specs.Times.{neighbours}
use Rattle.seatmelon_reading.specs.declared.notes.Sighting.{Sighting}
use Rattle.seatmelon_reading.specs.declared.silence.Silence.{Silence}
use Rattle.seatmelon_reading.specs.declared.silence.SilenceSearch.{SilenceSearch}
use Rattle.seatmelon_reading.proofs.Neighbours.{joined, last_or-push, neighbours-push}

abbrev pub Shorter : Silence → Silence → Type 0
Shorter s t = nanoseconds_in t < nanoseconds_in s

abbrev pub AsShort : Silence → Silence → Type 0
AsShort s t = nanoseconds_in t ≤ nanoseconds_in s

-- the longest stays so before one that isn't longer
pub still_longest : (silences : List Silence) (s t : Silence) → nanoseconds_in t ≤ nanoseconds_in s → IsFirstLongest silences s → IsFirstLongest (silences ++ t ∷ []) s
still_longest silences s t short h = record {
  earlier = h.earlier;
  later = h.later ++ t ∷ [];
  placed = ap (λ l. l ++ t ∷ []) h.placed ∙ append_assoc h.earlier (s ∷ h.later) (t ∷ []);
  longer = h.longer;
  longest = All-push (AsShort s) h.later t h.longest short;
}

-- a longer one takes its place
pub now_longest : (silences : List Silence) (s t : Silence) → nanoseconds_in s < nanoseconds_in t → IsFirstLongest silences s → IsFirstLongest (silences ++ t ∷ []) t
now_longest silences s t long h = record {
  earlier = silences;
  later = [];
  placed = refl;
  longer = subst (All (Shorter t)) (sym h.placed)
      (All-append (Shorter t) h.earlier (s ∷ h.later)
      (All-weaker (Shorter s) (Shorter t) (λ x below. omega (arith, below, long)) h.earlier h.longer)
      (All-cons (Shorter t) s h.later long (All-weaker (AsShort s) (Shorter t) (λ x most. omega (arith, most, long)) h.later h.longest)));
  longest = All-nil (AsShort t);
}

-- the first one is the longest
pub first_longest : (silences : List Silence) (t : Silence) → silences ≡ [] → IsFirstLongest (silences ++ t ∷ []) t
first_longest silences t none = record {
  earlier = [];
  later = [];
  placed = ap (λ l. l ++ t ∷ []) none;
  longer = All-nil (Shorter t);
  longest = All-nil (AsShort t);
}

-- where no silence follows, the longest stays
pub no_more : (silences : List Silence) (o : Option Silence) → IsLongest silences o → IsLongest (silences ++ []) o
no_more silences o h = subst (λ l. IsLongest l o) (sym (append-nil silences)) h

between : (o : Option Sighting) (packet : Sighting) → map silence_of (joined o packet) ≡ silences_between o packet
between None packet = refl
between (Some before) packet = refl

-- one packet more
pub search_next : (sent : List Sighting) (packet : Sighting) (old new : SilenceSearch) → IsSearch sent old
    → ((silences : List Silence) → IsLongest silences old.longest → IsLongest (silences ++ silences_between old.last packet) new.longest)
    → new.last ≡ Some packet → IsSearch (sent ++ packet ∷ []) new
search_next sent packet old new h longest last = record {
  last = last ∙ sym (last_or-push None sent packet);
  longest =
      let more = ap (map silence_of) (neighbours-push sent packet) ∙ map-append silence_of (neighbours sent) (joined (last_or None sent) packet)
      ∙ ap (λ l. map silence_of (neighbours sent) ++ l) (between (last_or None sent) packet)
      ∙ ap (λ o. map silence_of (neighbours sent) ++ silences_between o packet) (sym h.last) in
      subst (λ l. IsLongest l new.longest) (sym more) (longest (map silence_of (neighbours sent)) h.longest);
}
