-- From the parts of a text to what it is, or why and where it is refused.
use Rattle.std.proofs.Common.{◌≡◌, ◌≢◌, ◌⊎◌, inl, inr, ℕ, ◌+◌, ◌-◌, ◌≤◌, List, [], ◌∷◌, ◌++◌, map, length, Result, Ok, Err, IfOk, IfErr, MatchResult, refl, sym, ap, subst, ◌∙◌, arith, append_assoc, length-append}
use Rattle.std.proofs.lemmas.List.{append-nil, length-map, map-append}
use Rattle.std.specs.List.{concat}
use Rattle.std.specs.Prelude.{codes}
use Rattle.rasta_pcap.specs.declared.fault.Fault.{Fault}
use Rattle.rasta_pcap.specs.Fault.{fault_at, no_memory, wrong_syntax}
use Rattle.rasta_cert.specs.declared.entry.Entry.{Entry}
use Rattle.rasta_cert.specs.Certificate.{AreEntries, AreScripts, IsCertificate, Scripts, certificate_text, entries_text, entry_line, first_lines, is_few, line, most_entries}
use Rattle.rasta_cert.specs.Reading.{IsBroken, IsNoLine, IsScript, IsTooLong}
use Rattle.rasta_cert.specs.Refusals.{BeginsCertificate, BeginsScripts, IsRefusedText, first_line, lines_of}
use Rattle.rasta_cert.proofs.RefusalLemmas.{misspelled, refused}
use Rattle.rasta_cert.proofs.ScriptLemmas.{Closes, Closes-end, Closes-server, Lines, certificate_text-lines, certificate_text_injective, closed, first_is, follows, longer, not_closed, rest_is}
use Rattle.rasta_cert.proofs.Texts.{AreEntries_push}

abbrev head : List ℕ
head = line (codes "rasta-certificate 1")

abbrev client : List ℕ
client = line (codes "client")

abbrev server : List ℕ
server = line (codes "server")

abbrev ending : List ℕ
ending = line (codes "end")

abbrev no_scripts : Scripts
no_scripts = record { client = []; server = [] }

-- the first line
pub refused_at_first : (text : List ℕ) (fault : Fault) → first_line text ≢ head → fault ≡ fault_at wrong_syntax 1 → IsRefusedText text fault
refused_at_first text fault other is =
    misspelled text [] text fault refl
    (record { scripts = no_scripts; entries = (tt, tt); more = lines_of no_scripts; lines_are = refl }, omega arith)
    (λ b. other (sym (first_is head (first_line text) _ b.more b.lines_are)))
    (λ none c h e. absurd (let clash : ◌≡◌ {A = Lines} [] (lines_of c) = e in cc))
    is

-- the second
pub refused_at_second : (text rest : List ℕ) (fault : Fault) → text ≡ head ++ rest → first_line rest ≢ client → fault ≡ fault_at wrong_syntax 2
    → IsRefusedText text fault
refused_at_second text rest fault split other is =
    misspelled text (head ∷ []) rest fault split
    (record { scripts = no_scripts; entries = (tt, tt); more = client ∷ server ∷ ending ∷ []; lines_are = refl }, omega arith)
    (λ b. other (sym (first_is client (first_line rest) _ b.more (rest_is head head _ _ b.lines_are))))
    (λ none c h e. absurd (let clash : ◌≡◌ {A = Lines} [] (client ∷ _) = rest_is head head _ _ e in cc))
    is

-- the entries of these lines, up to the line that closes the script
record Remains (close : List ℕ) (most : ℕ) (c : Scripts) (lines : Lines) : Type 0 where
  entries : List Entry
  valid : AreEntries entries
  tail : Lines
  is : lines ≡ map entry_line entries ++ (close ∷ tail)
  few : is_few c → length entries ≤ most

-- some scripts go on with these entries
record Continues (front : Lines) (most : ℕ) (entries : List Entry) : Type 0 where
  scripts : Scripts
  valid : AreScripts scripts
  more : Lines
  is : lines_of scripts ≡ (front ++ map entry_line entries) ++ more
  few : length entries ≤ most → is_few scripts

-- after these lines entries stand, at most so many, and then this line
record Stage (front : Lines) (close : List ℕ) (most : ℕ) : Type 0 where
  closes : Closes close
  continues : (es : List Entry) → AreEntries es → Continues front most es
  remains : (c : Scripts) (lines : Lines) → AreScripts c → lines_of c ≡ front ++ lines → Remains close most c lines

Stage-client : Stage (head ∷ client ∷ []) server most_entries
Stage-client = record {
  closes = Closes-server;
  continues = λ es h. record {
    scripts = record { client = es; server = [] };
    valid = (h, tt);
    more = server ∷ ending ∷ [];
    is = refl;
    few = λ few. omega arith;
  };
  remains = λ c lines h e. record {
    entries = c.client;
    valid = h.0;
    tail = map entry_line c.server ++ (ending ∷ []);
    is = sym (rest_is client client _ _ (rest_is head head _ _ e));
    few = λ few. omega arith;
  };
}

abbrev server_front : List Entry → Lines
server_front cs = head ∷ client ∷ (map entry_line cs ++ (server ∷ []))

Stage-server : (cs : List Entry) → AreEntries cs → length cs ≤ most_entries → Stage (server_front cs) ending (most_entries - length cs)
Stage-server cs valid few = record {
  closes = Closes-end;
  continues = λ es h. record {
    scripts = record { client = cs; server = es };
    valid = (valid, h);
    more = ending ∷ [];
    is = ap (λ (l : Lines). head ∷ client ∷ l) (whole es);
    few = λ short. omega arith;
  };
  remains = λ c lines h e.
      let after = rest_is client client _ _ (rest_is head head _ _ e) in
      let told = closed server Closes-server c.client cs _ lines h.0 valid (after ∙ append_assoc (map entry_line cs) (server ∷ []) lines) in
      record {
        entries = c.server;
        valid = h.1;
        tail = [];
        is = sym told.1;
        few = λ short. omega (arith, ap length told.0);
      };
}
  where
    whole : (es : List Entry) → map entry_line cs ++ (server ∷ (map entry_line es ++ (ending ∷ [])))
        ≡ ((map entry_line cs ++ (server ∷ [])) ++ map entry_line es) ++ (ending ∷ [])
    whole es =
        sym (append_assoc (map entry_line cs ++ (server ∷ [])) (map entry_line es) (ending ∷ [])
        ∙ append_assoc (map entry_line cs) (server ∷ []) (map entry_line es ++ (ending ∷ [])))

-- the text of entries is that of their lines
concat-map : (es : List Entry) → concat (map entry_line es) ≡ entries_text es
unfolding entries_text
concat-map [] = refl
concat-map (e ∷ es) = ap (λ (l : List ℕ). entry_line e ++ l) (concat-map es)

concat-append : (xs ys : Lines) → concat (xs ++ ys) ≡ concat xs ++ concat ys
concat-append [] ys = refl
concat-append (x ∷ xs) ys = ap (λ (l : List ℕ). x ++ l) (concat-append xs ys) ∙ sym (append_assoc x (concat xs) (concat ys))

-- a fault among the entries of a script
refused_in_script : (front : Lines) (close : List ℕ) (most : ℕ) (text after : List ℕ) (first : ℕ) (fault : Fault) → Stage front (line close) most
    → text ≡ concat front ++ after → length front + 1 ≡ first → IsBroken close first most after fault → IsRefusedText text fault
refused_in_script front close most text after first fault stage split place broken = elim broken.number [
  | inl long ↦ refused text lines rest fault text_is begins (too_long long.1) not_whole (inl (long.0, with_one_more long.1)) fault_is
  | inr other ↦
      let misspelt : ¬ (BeginsScripts (lines ++ first_line rest ∷ [])) = no_line other.1 in
      refused text lines rest fault text_is begins (λ b. misspelt b.0) not_whole (inr (other.0, misspelt)) fault_is
]
  where
    es : List Entry
    es = broken.entries

    rest : List ℕ
    rest = broken.rest

    lines : Lines
    lines = front ++ map entry_line es

    text_is : text ≡ concat lines ++ rest
    text_is =
        split ∙ ap (λ (l : List ℕ). concat front ++ l) broken.text_is
        ∙ sym (append_assoc (concat front) (entries_text es) rest)
        ∙ ap (λ (l : List ℕ). (concat front ++ l) ++ rest) (sym (concat-map es))
        ∙ ap (λ (l : List ℕ). l ++ rest) (sym (concat-append front (map entry_line es)))

    begins : BeginsCertificate lines
    begins =
        let c = stage.continues es broken.valid in
        (record { scripts = c.scripts; entries = c.valid; more = c.more; lines_are = c.is }, c.few broken.few)

    count : length lines + 1 ≡ first + length es
    count =
        let long : length lines ≡ length front + length (map entry_line es) = length-append front (map entry_line es) in
        let mapped : length (map entry_line es) ≡ length es = length-map es entry_line in
        omega arith

    fault_is : fault ≡ fault_at fault.number (length lines + 1)
    fault_is = broken.fault_is ∙ ap (λ (n : ℕ). fault_at fault.number n) (sym count)

    not_whole : rest ≡ [] → (c : Scripts) → AreScripts c → lines ≢ lines_of c
    not_whole none c h e =
        let r = stage.remains c (map entry_line es) h (sym e) in
        not_closed (line close) stage.closes es r.entries r.tail r.is

    -- after the line the scripts go on with entries, or close
    remaining : (b : BeginsScripts (lines ++ first_line rest ∷ [])) → Remains (line close) most b.scripts (map entry_line es ++ (first_line rest ∷ b.more))
    remaining b =
        stage.remains b.scripts (map entry_line es ++ (first_line rest ∷ b.more)) b.entries
        (b.lines_are ∙ append_assoc lines (first_line rest ∷ []) b.more ∙ append_assoc front (map entry_line es) (first_line rest ∷ b.more))

    no_line : IsNoLine close rest → ¬ (BeginsScripts (lines ++ first_line rest ∷ []))
    no_line other b =
        let r = remaining b in
        elim (follows (line close) stage.closes es r.entries (first_line rest) b.more r.tail r.valid r.is) [
          | inl is ↦ other.0 is
          | inr found ↦ other.1 found.0 found.1 found.2
        ]

    too_long : IsTooLong most es rest → ¬ (BeginsCertificate (lines ++ first_line rest ∷ []))
    too_long long b =
        let r = remaining b.0 in
        let is : map entry_line es ++ (entry_line long.entry ∷ b.0.more) ≡ map entry_line r.entries ++ (line close ∷ r.tail) =
        ap (λ (l : List ℕ). map entry_line es ++ (l ∷ b.0.more)) (sym long.first) ∙ r.is in
        let more = longer (line close) stage.closes es r.entries long.entry b.0.more r.tail is in
        let few = r.few b.1 in
        omega (arith, more, few, long.full)

    with_one_more : IsTooLong most es rest → BeginsScripts (lines ++ first_line rest ∷ [])
    with_one_more long =
        let c = stage.continues (es ++ long.entry ∷ []) (AreEntries_push es long.entry broken.valid long.valid) in
        record {
          scripts = c.scripts;
          entries = c.valid;
          more = c.more;
          lines_are = c.is
              ∙ ap (λ (l : Lines). (front ++ l) ++ c.more) (map-append entry_line es (long.entry ∷ []))
              ∙ ap (λ (l : Lines). l ++ c.more) (sym (append_assoc front (map entry_line es) (entry_line long.entry ∷ [])))
              ∙ ap (λ (l : List ℕ). (lines ++ (l ∷ [])) ++ c.more) (sym long.first);
        }

pub refused_in_client : (text one two : List ℕ) (fault : Fault) → text ≡ head ++ one → one ≡ client ++ two
    → IsBroken (codes "server") 3 most_entries two fault → IsRefusedText text fault
refused_in_client text one two fault a b broken =
    refused_in_script (head ∷ client ∷ []) (codes "server") most_entries text two 3 fault Stage-client
    (a ∙ ap (λ (l : List ℕ). head ++ l) b) refl broken

pub refused_in_server : (text one two three : List ℕ) (cs : List Entry) (first most : ℕ) (fault : Fault) → first ≡ 4 + length cs → most ≡ most_entries - length cs
    → text ≡ head ++ one → one ≡ client ++ two → IsScript (codes "server") most_entries two cs three
    → IsBroken (codes "end") first most three fault → IsRefusedText text fault
refused_in_server text one two three cs first most fault place full a b script broken =
    refused_in_script (server_front cs) (codes "end") most text three first fault
    (subst (λ (n : ℕ). Stage (server_front cs) ending n) (sym full) (Stage-server cs script.valid script.few)) split (count ∙ sym place) broken
  where
    count : length (server_front cs) + 1 ≡ 4 + length cs
    count =
        let long : length (map entry_line cs ++ (server ∷ [])) ≡ length (map entry_line cs) + 1 = length-append (map entry_line cs) (server ∷ []) in
        let mapped : length (map entry_line cs) ≡ length cs = length-map cs entry_line in
        omega arith

    split : text ≡ concat (server_front cs) ++ three
    split =
        a ∙ ap (λ (l : List ℕ). head ++ l) b
        ∙ ap (λ (l : List ℕ). head ++ (client ++ l)) (script.text_is ∙ sym (append_assoc (entries_text cs) server three))
        ∙ ap (λ (l : List ℕ). head ++ (client ++ ((l ++ server) ++ three))) (sym (concat-map cs))
        ∙ ap (λ (l : List ℕ). head ++ (client ++ (l ++ three))) (sym (concat-append (map entry_line cs) (server ∷ [])))

-- the text of both scripts, and what follows it
pub whole_text : (text one two three rest : List ℕ) (cs ss : List Entry) (most : ℕ) → text ≡ head ++ one → one ≡ client ++ two
    → IsScript (codes "server") most_entries two cs three → IsScript (codes "end") most three ss rest
    → text ≡ certificate_text (record { client = cs; server = ss }) ++ rest
unfolding certificate_text
whole_text text one two three rest cs ss most a b s t =
    a ∙ ap (λ (l : List ℕ). head ++ l) b
    ∙ ap (λ (l : List ℕ). head ++ (client ++ l)) (s.text_is ∙ ap (λ (l : List ℕ). entries_text cs ++ (server ++ l)) t.text_is)
    ∙ ap (λ (l : List ℕ). first_lines ++ l) regrouped
  where
    regrouped : entries_text cs ++ (server ++ (entries_text ss ++ (ending ++ rest)))
        ≡ (entries_text cs ++ (server ++ (entries_text ss ++ ending))) ++ rest
    regrouped =
        ap (λ (l : List ℕ). entries_text cs ++ (server ++ l)) (sym (append_assoc (entries_text ss) ending rest))
        ∙ ap (λ (l : List ℕ). entries_text cs ++ l) (sym (append_assoc server (entries_text ss ++ ending) rest))
        ∙ sym (append_assoc (entries_text cs) (server ++ (entries_text ss ++ ending)) rest)

-- bytes after the last line
pub refused_after : (text one two three rest : List ℕ) (cs ss : List Entry) (most : ℕ) (fault : Fault) → most ≡ most_entries - length cs
    → text ≡ head ++ one → one ≡ client ++ two → IsScript (codes "server") most_entries two cs three → IsScript (codes "end") most three ss rest
    → rest ≢ [] → fault ≡ fault_at wrong_syntax (4 + length cs + length ss + 1) → IsRefusedText text fault
refused_after text one two three rest cs ss most fault full a b s t some is =
    misspelled text (lines_of c) rest fault (whole_text text one two three rest cs ss most a b s t ∙ ap (λ (l : List ℕ). l ++ rest) (certificate_text-lines c))
    (record { scripts = c; entries = (s.valid, t.valid); more = []; lines_are = sym (append-nil (lines_of c)) }, few)
    stops (λ none d h e. some none) (is ∙ ap (λ (n : ℕ). fault_at wrong_syntax n) count)
  where
    c : Scripts
    c = record { client = cs; server = ss }

    few : is_few c
    few = let cs_few = s.few in let ss_few = t.few in omega arith

    count : 4 + length cs + length ss + 1 ≡ length (lines_of c) + 1
    count =
        let last : length (map entry_line ss ++ (ending ∷ [])) ≡ length (map entry_line ss) + 1 = length-append (map entry_line ss) (ending ∷ []) in
        let long : length (map entry_line cs ++ (server ∷ (map entry_line ss ++ (ending ∷ [])))) ≡ length (map entry_line cs) + length (server ∷ (map entry_line ss ++ (ending ∷ []))) =
        length-append (map entry_line cs) (server ∷ (map entry_line ss ++ (ending ∷ []))) in
        let mapped_cs : length (map entry_line cs) ≡ length cs = length-map cs entry_line in
        let mapped_ss : length (map entry_line ss) ≡ length ss = length-map ss entry_line in
        omega arith

    stops : ¬ (BeginsScripts (lines_of c ++ first_line rest ∷ []))
    stops b =
        let d = b.scripts in
        let more = first_line rest ∷ b.more in
        let all = b.lines_are ∙ append_assoc (lines_of c) (first_line rest ∷ []) b.more in
        let after = rest_is client client _ _ (rest_is head head _ _ all) in
        let one_script = closed server Closes-server d.client cs (map entry_line d.server ++ (ending ∷ [])) ((map entry_line ss ++ (ending ∷ [])) ++ more) b.entries.0 s.valid
        (after ∙ append_assoc (map entry_line cs) (server ∷ (map entry_line ss ++ (ending ∷ []))) more) in
        let both = closed ending Closes-end d.server ss [] more b.entries.1 t.valid
        (one_script.1 ∙ append_assoc (map entry_line ss) (ending ∷ []) more) in
        absurd (let clash : ◌≡◌ {A = Lines} [] (first_line rest ∷ b.more) = both.1 in cc)

-- either part of a fault that is handed on
pub or_refused : {A B C : Type 0} → A ⊎ B → (B → C) → A ⊎ C
or_refused (inl a) f = inl a
or_refused (inr b) f = inr (f b)

pub if_ok : {T E : Type 0} (r : Result T E) (P G : T → Type 0) (Q : E → Type 0) → MatchResult r P Q → ((x : T) → P x → G x) → IfOk r G
if_ok (Ok x) P G Q h f = f x h
if_ok (Err e) P G Q h f = tt

-- what was read is the certificate of the text
pub is_read : (text : List ℕ) (r : Result Scripts Fault) → IfOk r (λ c. (text ≡ certificate_text c) × IsCertificate c)
    → IfErr r (λ f. (f ≡ no_memory) ⊎ IsRefusedText text f) → (c : Scripts) → IsCertificate c → text ≡ certificate_text c
    → MatchResult r (λ d. d ≡ c) (λ f. f ≡ no_memory)
is_read text (Ok d) ok err c h e = certificate_text_injective d c ok.1.0 h.0 (sym ok.0 ∙ e)
is_read text (Err f) ok err c h e = elim err [ inl none ↦ none | inr r ↦ absurd (r.no_certificate c h e) ]
