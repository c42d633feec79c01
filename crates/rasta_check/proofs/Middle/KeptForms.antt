-- What is kept with one PDU more, from its parts.
use Rattle.std.proofs.Common.{◌≡◌, ℕ, Bool, true, List, length, ap, ◌∙◌, subst}
use Rattle.rasta_check.proofs.Prelude.{FirstCopy, Kind, messages_in}
use Rattle.rasta_end.specs.State.{ahead_by}
use Rattle.rasta_check.specs.declared.sights.Sight.{Sight}
use Rattle.rasta_check.specs.declared.sights.Confirmation.{Confirmation}
use Rattle.rasta_check.specs.Middle.Kept.{KeptPdus, offset_of}
use Rattle.rasta_check.specs.Internals.Sighting.{AfterSight, SightsWith, ConfirmationsWith, IsKeptWith, base_of, base_with, first_ts_of, follows_kept, sight_with}

-- how many messages its PDU has
abbrev count : FirstCopy → ℕ
count copy = length (messages_in copy.pdu.safety.body)

same_sight : (a b place n m : ℕ) (x y : Kind) → a ≡ b → x ≡ y → n ≡ m
    → ◌≡◌ {A = Sight} (record { key = a; place = place; kind = x; messages = n }) (record { key = b; place = place; kind = y; messages = m })
same_sight a b place n m x y e f g = cc

pub kept_of_parts : (copy : FirstCopy) (old kept : KeptPdus) (sn base key messages offset first_ts : ℕ) (kind : Kind) (held : Bool) (sights : List Sight) (mid confirmations : List Confirmation)
    → follows_kept kept copy ≡ true → offset ≡ offset_of copy.pdu → first_ts ≡ first_ts_of kept.sights kept.first_ts copy.pdu.safety.ts
    → old ≡ kept → sn ≡ copy.pdu.safety.sn → base ≡ base_of kept.sights kept.base sn → key ≡ ahead_by copy.pdu.safety.sn base → kind ≡ copy.pdu.safety.kind → messages ≡ count copy → mid ≡ old.confirmations
    → AfterSight old.sights (record { key = key; place = copy.place; kind = kind; messages = messages }) held sights → held ≡ true → ConfirmationsWith mid copy confirmations
    → IsKeptWith kept copy (record { base = base; offset = offset; first_ts = first_ts; sights = sights; confirmations = confirmations })
kept_of_parts copy old kept sn base key messages offset first_ts kind held sights mid confirmations follows apart earliest same e b k f n m after h c =
    let base_is : base ≡ base_with kept copy = b ∙ ap (base_of kept.sights kept.base) e in
    let keys = k ∙ ap (ahead_by copy.pdu.safety.sn) base_is in
    let with_sight = subst (λ (v : Bool). AfterSight old.sights (record { key = key; place = copy.place; kind = kind; messages = messages }) v sights) h after in
    let of_copy = subst (λ (t : Sight). SightsWith old.sights t sights) (same_sight key (ahead_by copy.pdu.safety.sn (base_with kept copy)) copy.place messages (count copy) kind copy.pdu.safety.kind keys f n) with_sight in
    record {
      follows = follows;
      base = base_is;
      offset = apart;
      first_ts = earliest;
      sights = subst (λ (x : KeptPdus). SightsWith x.sights (sight_with kept copy) sights) same of_copy;
      confirmations = subst (λ (x : KeptPdus). ConfirmationsWith x.confirmations copy confirmations) same (subst (λ (cs : List Confirmation). ConfirmationsWith cs copy confirmations) m c);
    }
