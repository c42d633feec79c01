use Rattle.std.proofs.Common.{◌<◌, length, arith}
use Rattle.rasta_check.proofs.Prelude.{Client, Server}
use Rattle.rasta_check.proofs.Script.Fits.{follows_fits}
use Rattle.rasta_check.proofs.Capture.ListForms.{to_record}
use Rattle.rasta_check.proofs.Script.ScriptsOfRuns.{complete}
use Rattle.rasta_check.proofs.Script.WritableEntries.{most_clock, script_fits}
use Rattle.rasta_check.proofs.Capture.FaultlessLists.{ordered}
use Rattle.rasta_check.proofs.laws.complete.Goals as goal

pub returns : goal.returns
returns z p h ws w c s r hc hs few lc ls bc bs =
    let own = to_record p w.crossed Client c h.valid hc in
    let peer = to_record p w.crossed Server s h.valid hs in
    let few_c : length c < 4294967296 = omega (arith, lc) in
    let few_s : length s < 4294967296 = omega (arith, ls) in
    let k = complete p ws w c s r own peer lc ls most_clock (omega arith) (omega arith) in (
      k.0,
      k.1,
      follows_fits p (length w.crossed) c s (ordered own) (ordered peer) few_s Client k.0 w.client.state k.2,
      follows_fits p (length w.crossed) s c (ordered peer) (ordered own) few_c Server k.1 w.server.state k.3,
      (
        (
          script_fits p w.crossed Client Server c s own peer few lc k.2.0 k.0 k.2.1 k.5,
          script_fits p w.crossed Server Client s c peer own few ls k.3.0 k.1 k.3.1 k.6,
        ),
        k.4,
      ),
    )
