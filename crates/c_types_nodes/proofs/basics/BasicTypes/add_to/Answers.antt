use Rattle.c_types_nodes.proofs.Growing.{basics_by}
use Rattle.c_types_nodes.proofs.basics.BasicTypes.add_to.Goals as goal

pub returns : goal.returns
returns c =
    let k2 = c.named-2.ensures.kept in
    let k3 = c.named-3.ensures.kept in
    let k4 = c.named-4.ensures.kept in
    let k5 = c.named-5.ensures.kept in
    let k6 = c.named-6.ensures.kept in
    let k7 = c.named-7.ensures.kept in
    let k8 = c.named-8.ensures.kept in
    let k9 = c.named-9.ensures.kept in
    basics_by _ _
    (k9.names _ _ (k8.names _ _ (k7.names _ _ (k6.names _ _ (k5.names _ _ (k4.names _ _ (k3.names _ _ (k2.names _ _ c.in_ok-named.ensures.names))))))))
    (k9.names _ _ (k8.names _ _ (k7.names _ _ (k6.names _ _ (k5.names _ _ (k4.names _ _ (k3.names _ _ c.in_ok-named-2.ensures.names)))))))
    (k9.names _ _ (k8.names _ _ (k7.names _ _ (k6.names _ _ (k5.names _ _ (k4.names _ _ c.in_ok-named-3.ensures.names))))))
    (k9.names _ _ (k8.names _ _ (k7.names _ _ (k6.names _ _ (k5.names _ _ c.in_ok-named-4.ensures.names)))))
    (k9.names _ _ (k8.names _ _ (k7.names _ _ (k6.names _ _ c.in_ok-named-5.ensures.names))))
    (k9.names _ _ (k8.names _ _ (k7.names _ _ c.in_ok-named-6.ensures.names)))
    (k9.names _ _ (k8.names _ _ c.in_ok-named-7.ensures.names))
    (k9.names _ _ c.in_ok-named-8.ensures.names)
    c.in_ok-named-9.ensures.names
